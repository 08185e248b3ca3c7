-- One law for each answer of the joining: what a packet leaves in the control value, the gather buffer and the message room.
-- Assumes nothing.
use Prim.Native.Nat.{ℕ, ◌+◌, ◌-◌, ◌/◌, ◌%◌, ◌≤◌, ◌<◌}
use mathlib.Core.Path.{◌≡◌, refl, sym, ap, ◌∙◌}
use mathlib.Core.Bool.{Bool, true, false, not}
use mathlib.Core.List.{List, [], ◌++◌}
use native.Mathlib.Omega.{arith}
use lib.Dec.{eqb, ltb}
use lib.ListN.{length, get_or, take, drop, length-append, length-take}
use lib.Seq.{length-take-le}
use borrow.Author.Tests.{eq-eqb, ne_eqb, lt-ltb, le-ltb}
use Rattle.words.specs.Lists.{pick, over, over_at}
use Rattle.words.specs.Machine.{Done}
use Rattle.words.proofs.Lists.{over_nil, over_take, over_behind, rest_part}
use Rattle.packet.specs.Opcodes.{reader, decode_data}
use Rattle.packet.specs.Packet.{head_in, unmarked}
use Rattle.packet.specs.Promises.{DataPart, Allowed, Resent, IsAnswer}
use Rattle.packet.specs.Sizes.{message_size}
use Rattle.packet.specs.declared.Head.{Head}
use Rattle.packet.specs.declared.Refusal.TheVariants as refusal
use Rattle.hub.specs.Joiner.{none, some, Joiner, Output, added, repeated, handed, acknowledged, refusing, type_in, piece_in, other_type, bytes_of, barring, joined, adding, join_step}
use Rattle.hub.specs.Hub.{decode_step, packet_step}
use Rattle.hub.specs.Promises.{told_of, message_of, Sound, gathered_of, joiner_of, gathering_of, Closed, OtherType, Joins, Adds, Keeps, HandsOut, Bars, Unchanged}
use Rattle.hub.specs.declared.Gathering.{Gathering}
use Rattle.hub.specs.declared.Told.{Told}
use Rattle.hub.specs.declared.Told.TheVariants as told
use Rattle.hub.specs.declared.Joined.{Joined}
use Rattle.framer.proofs.Silence.{put_in}
use Rattle.hub.proofs.Control.{refusing_hands_out}

-- ---- what the control value and the gather buffer stand for

module _ (g : Gathering) (gather : List ℕ) where
  other_by : (code : ℕ) (d : Bool) → g.begun ≡ d → other_type (gathered_of g gather) code ≡ pick g.begun (not (eqb g.code code)) false
  unfolding other_type gathered_of
  other_by code true e = simp e
  other_by code false e = simp e

  other_gathered : (code : ℕ) → other_type (gathered_of g gather) code ≡ pick g.begun (not (eqb g.code code)) false
  other_gathered code = other_by code g.begun refl

  over_by : (d : Bool) → g.begun ≡ d → over (bytes_of (gathered_of g gather)) gather ≡ gather
  unfolding gathered_of bytes_of
  over_by true e = simp e (over_take g.count gather)
  over_by false e = simp e (over_nil gather)

  -- What is gathered is written back over itself.
  pub gathered_over : over (bytes_of (gathered_of g gather)) gather ≡ gather
  gathered_over = over_by g.begun refl

  module _ (s : Sound g) where
    bytes_by : (d : Bool) → g.begun ≡ d → bytes_of (gathered_of g gather) ≡ take g.count gather
    unfolding bytes_of gathered_of
    bytes_by true e = simp e
    bytes_by false e = simp (e, (s.closed e).1)

    bytes_gathered : bytes_of (gathered_of g gather) ≡ take g.count gather
    bytes_gathered = bytes_by g.begun refl

gathering_by : (barred begun : Bool) (code count : ℕ) (gather : List ℕ) → Sound (record { barred = barred; begun = begun; code = code; count = count }) → length gather ≡ message_size →
    gathering_of barred (gathered_of (record { barred = barred; begun = begun; code = code; count = count }) gather) ≡ record { barred = barred; begun = begun; code = code; count = count }
unfolding gathered_of
gathering_by barred true code count gather s l = rw (length-take-le count gather (let m = s.few in omega arith)) refl
gathering_by barred false code count gather s l = rw ((s.closed refl).0, (s.closed refl).1) refl

gathering_back : (g : Gathering) (gather : List ℕ) → Sound g → length gather ≡ message_size → gathering_of g.barred (gathered_of g gather) ≡ g
gathering_back g gather s l = gathering_by g.barred g.begun g.code g.count gather s l

-- ---- steps that write nothing

-- What changes nothing leaves every byte.
pub still : (g : Gathering) (last gather message : List ℕ) (outs : List Output) {d : Done Joiner Output} {t : Told} {r : Joined} → Sound g → length gather ≡ message_size →
    d ≡ record { next = joiner_of g last gather; told = outs } → t ≡ told_of outs → message_of outs ≡ [] → Unchanged g t r → Joins d gather message r gather message
unfolding joiner_of
still g last gather message outs s l e n m u =
    rw e
    (record {
      told_is = rw u.is n;
      gathering_is = rw u.is (sym (gathering_back g gather s l));
      gather_is = sym (gathered_over g gather);
      message_is = sym (rw m (over_nil message));
    })

bars_joins : (j : Joiner) {d : Done Joiner Output} {gather message : List ℕ} {r : Joined} → d ≡ barring j → Bars r → Joins d gather message r gather message
unfolding barring told_of bytes_of over
bars_joins j {message = message} e b =
    rw e (record { told_is = rw b.is refl; gathering_is = rw b.is refl; gather_is = refl; message_is = sym (rw (refusing_hands_out refusal.Barred) (over_nil message)) })

-- ---- pieces

pub keeps : {code at : ℕ} {piece gather part : List ℕ} → part ≡ piece →
    Keeps code at piece gather (record { gathering = record { barred = false; begun = true; code = code; count = at + length piece }; told = told.Added })
    (take at gather ++ (part ++ drop (at + length piece - at) (drop at gather)))
keeps {code} {at} {piece} {gather} {part} e = record { is = refl; gather_is = put_in at (length piece) piece gather part refl e }

pub hands_out_lem : {code at : ℕ} {piece gather message front part : List ℕ} {g : Gathering} → at ≤ length gather → front ≡ take at gather → part ≡ piece → Closed false g →
    HandsOut code at piece gather message (record { gathering = g; told = told.Message code (at + length piece) })
    (take at (front ++ drop at message) ++ (part ++ drop (at + length piece - at) (drop at (front ++ drop at message))))
unfolding over
hands_out_lem {code} {at} {piece} {gather} {message} {front} {part} h first second k =
    let long : length (take at gather) ≡ at = length-take-le at gather h in
    let once : front ++ drop at message ≡ over (take at gather) message = rw first (ap (λ (j : ℕ). take at gather ++ drop j message) (sym long)) in
    record {
      is = rw k.is refl;
      message_is = put_in at (length piece) piece (front ++ drop at message) part refl second ∙ rw once (over_behind at (take at gather) piece message long);
    }

-- ---- the head of a packet, by name

module _ {h : Head} (body : List ℕ) (q : h ≡ head_in body) where
  opcode_is : get_or body 1 0 ≡ h.opcode
  unfolding head_in
  opcode_is = sym (ap (λ (x : Head). x.opcode) q)

  source_is : get_or body 2 0 ≡ h.source
  unfolding head_in
  source_is = sym (ap (λ (x : Head). x.source) q)

  status_is : get_or body 3 0 ≡ h.status
  unfolding head_in
  status_is = sym (ap (λ (x : Head). x.status) q)

-- ---- the joining itself

module _ (g : Gathering) (last gather body : List ℕ) {code : ℕ} {piece : List ℕ} {t : Bool} (s : Sound g) (l : length gather ≡ message_size) (q : (code ≡ type_in body) × (piece ≡ piece_in body)) (p : OtherType g code t) where
  adding_is :
      adding (joiner_of g last gather) body
      ≡ pick t (barring (joiner_of g last gather)) (pick (ltb message_size (g.count + length piece)) (barring (joiner_of g last gather)) (joined (joiner_of g last gather) body))
  unfolding adding joiner_of
  adding_is =
      let m = s.few in
      simp (sym q.0, sym q.1, other_gathered g gather code, sym p.is, bytes_gathered g gather s, length-take-le g.count gather (omega arith))

  module _ (e : t ≡ false) (n : g.count + length piece ≤ message_size) where
    adding_joined : adding (joiner_of g last gather) body ≡ joined (joiner_of g last gather) body
    adding_joined = adding_is ∙ simp (e, le-ltb message_size (g.count + length piece) n)

    whole : bytes_of (gathered_of g gather) ++ piece_in body ≡ take g.count gather ++ piece
    whole = rw (← q.1, bytes_gathered g gather s) refl

    module _ {h : Head} (w : h ≡ head_in body) where
      adding_last : h.status / 2 % 2 ≡ 0 → adding (joiner_of g last gather) body
          ≡ record { next = record { barred = false; last = unmarked body; gathered = none }; told = acknowledged (handed code (take g.count gather ++ piece)) }
      unfolding joined joiner_of
      adding_last z = adding_joined ∙ simp (status_is body w, eq-eqb (h.status / 2 % 2) 0 z, whole, sym q.0)

      adding_more : (h.status / 2 % 2 ≡ 0 → ⊥) → adding (joiner_of g last gather) body
          ≡ record { next = record { barred = false; last = unmarked body; gathered = some code (take g.count gather ++ piece) }; told = acknowledged added }
      unfolding joined joiner_of
      adding_more z = adding_joined ∙ simp (status_is body w, ne_eqb (h.status / 2 % 2) 0 z, whole, sym q.0)

length_whole : (g : Gathering) (gather piece : List ℕ) → Sound g → length gather ≡ message_size → length (take g.count gather ++ piece) ≡ g.count + length piece
length_whole g gather piece s l = let m = s.few in simp (length-append, length-take) (omega arith)

module _ {g : Gathering} {body gather message : List ℕ} {code : ℕ} {piece : List ℕ} {t : Bool} {r : Joined} (s : Sound g) (l : length gather ≡ message_size) (q : (code ≡ type_in body) × (piece ≡ piece_in body)) (p : OtherType g code t) where
  pub adds_other : t ≡ true → Bars r → Adds g body gather message r gather message
  adds_other e b = record { joins = λ last. bars_joins (joiner_of g last gather) (adding_is g last gather body s l q p ∙ simp e) b }

  pub adds_much : t ≡ false → message_size < g.count + length piece → Bars r → Adds g body gather message r gather message
  adds_much e n b =
      record { joins = λ last. bars_joins (joiner_of g last gather) (adding_is g last gather body s l q p ∙ simp (e, lt-ltb message_size (g.count + length piece) n)) b }

  pub adds_last : {message' : List ℕ} {h : Head} → t ≡ false → g.count + length piece ≤ message_size → h ≡ head_in body → h.status / 2 % 2 ≡ 0 →
      HandsOut code g.count piece gather message r message' → Adds g body gather message r gather message'
  unfolding told_of bytes_of message_of
  adds_last e n w z k =
      record {
        joins = λ last.
            rw (adding_last g last gather body s l q p e n w z)
            (record {
              told_is = rw (k.is, length_whole g gather piece s l) refl;
              gathering_is = rw k.is refl;
              gather_is = sym (over_nil gather);
              message_is = k.message_is;
            });
      }

  pub adds_more : {gather' : List ℕ} {h : Head} → t ≡ false → g.count + length piece ≤ message_size → h ≡ head_in body → (h.status / 2 % 2 ≡ 0 → ⊥) →
      Keeps code g.count piece gather r gather' → Adds g body gather message r gather' message
  unfolding told_of bytes_of message_of
  adds_more e n w z k =
      let m = s.few in
      let front : length (take g.count gather) ≡ g.count = length-take-le g.count gather (omega arith) in
      let put : over_at g.count piece gather ≡ over (take g.count gather ++ piece) gather = rw (over_take g.count gather) at (over_behind g.count (take g.count gather) piece gather front) in
      record {
        joins = λ last.
            rw (adding_more g last gather body s l q p e n w z)
            (record {
              told_is = rw k.is refl;
              gathering_is = rw (k.is, length_whole g gather piece s l) refl;
              gather_is = k.gather_is ∙ put;
              message_is = sym (over_nil message);
            });
      }

-- ---- bar, repeat, then the joining itself

-- The same step by another name.
becomes : {d d' : Done Joiner Output} {gather gather' message message' : List ℕ} {r : Joined} → d ≡ d' → Joins d' gather message r gather' message' → Joins d gather message r gather' message'
becomes e k = rw e k

pub joins_barred : {g : Gathering} {gather message : List ℕ} {r : Joined} (last body : List ℕ) → Sound g → g.barred ≡ true → Bars r →
    Joins (join_step (joiner_of g last gather) body) gather message r gather message
unfolding join_step joiner_of
joins_barred {g} {gather} last body s e b = bars_joins (joiner_of g last gather) (simp e) b

module _ {g : Gathering} {last body gather message : List ℕ} {t : Bool} {r : Joined} (s : Sound g) (e : g.barred ≡ false) (p : Resent last body t) where
  pub joins_repeated : length gather ≡ message_size → t ≡ true → Unchanged g told.Repeated r → Joins (join_step (joiner_of g last gather) body) gather message r gather message
  unfolding join_step joiner_of told_of message_of
  joins_repeated l f u = still g last gather message (acknowledged repeated) s l (simp (e, sym p.is ∙ f)) refl refl u

  pub joins_added : {gather' message' : List ℕ} → t ≡ false → Adds g body gather message r gather' message' → Joins (join_step (joiner_of g last gather) body) gather message r gather' message'
  unfolding join_step joiner_of
  joins_added f k = becomes (simp (e, sym p.is ∙ f)) (k.joins last)

-- ---- the data

-- The code type and the piece that it brings.
pub data_opened : {body carried : List ℕ} → DataPart body carried → (get_or carried 0 0 ≡ type_in body) × (take (length carried - 1) (drop 1 carried) ≡ piece_in body)
unfolding type_in piece_in
data_opened {carried = carried} p = (ap (λ (x : List ℕ). get_or x 0 0) p.is, rest_part 1 carried ∙ ap (drop 1) p.is)

module _ {g : Gathering} {body carried gather message : List ℕ} {r : Joined} (last : List ℕ) (s : Sound g) (p : DataPart body carried) where
  pub decodes_none : length gather ≡ message_size → length carried ≡ 0 → Unchanged g (told.Refused refusal.Data) r → Joins (decode_step (joiner_of g last gather) body) gather message r gather message
  unfolding decode_step told_of message_of
  decodes_none l z u = still g last gather message (refusing refusal.Data) s l (simp (sym p.is, eq-eqb (length carried) 0 z)) refl (refusing_hands_out refusal.Data) u

  pub decodes_some : {gather' message' : List ℕ} → (length carried ≡ 0 → ⊥) → Joins (join_step (joiner_of g last gather) body) gather message r gather' message' →
      Joins (decode_step (joiner_of g last gather) body) gather message r gather' message'
  unfolding decode_step
  decodes_some h k = becomes (simp (sym p.is, ne_eqb (length carried) 0 h)) k

-- ---- the packet

module _ {g : Gathering} {gather message : List ℕ} {h : Head} {a : Bool} {r : Joined} (last body : List ℕ) (s : Sound g) (l : length gather ≡ message_size) (q : h ≡ head_in body) (p : IsAnswer h.opcode a) where
  pub judges_answer : a ≡ true → Unchanged g told.Nothing r → Joins (packet_step (joiner_of g last gather) body) gather message r gather message
  unfolding packet_step told_of message_of
  judges_answer e u = still g last gather message [] s l (simp (opcode_is body q, sym p.is ∙ e)) refl refl u

  pub judges_source : a ≡ false → (h.source ≡ reader → ⊥) → Unchanged g (told.Refused refusal.Source) r → Joins (packet_step (joiner_of g last gather) body) gather message r gather message
  unfolding packet_step told_of message_of
  judges_source e k u = still g last gather message (refusing refusal.Source) s l (simp (opcode_is body q, source_is body q, status_is body q, sym p.is ∙ e, ne_eqb h.source reader k)) refl (refusing_hands_out refusal.Source) u

  module _ {b : Bool} (e : a ≡ false) (f : h.source ≡ reader) (w : Allowed h.opcode h.status b) where
    pub judges_status : b ≡ false → Unchanged g (told.Refused refusal.Status) r → Joins (packet_step (joiner_of g last gather) body) gather message r gather message
    unfolding packet_step told_of message_of
    judges_status k u = still g last gather message (refusing refusal.Status) s l (simp (opcode_is body q, source_is body q, status_is body q, sym p.is ∙ e, eq-eqb h.source reader f, sym w.is ∙ k)) refl (refusing_hands_out refusal.Status) u

    pub judges_opcode : b ≡ true → (h.opcode ≡ decode_data → ⊥) → Unchanged g (told.Refused refusal.Opcode) r → Joins (packet_step (joiner_of g last gather) body) gather message r gather message
    unfolding packet_step told_of message_of
    judges_opcode k o u =
        still g last gather message (refusing refusal.Opcode) s l
        (simp (opcode_is body q, source_is body q, status_is body q, sym p.is ∙ e, eq-eqb h.source reader f, sym w.is ∙ k, ne_eqb h.opcode decode_data o))
        refl
        (refusing_hands_out refusal.Opcode)
        u

    pub judges_decode : {gather' message' : List ℕ} → b ≡ true → h.opcode ≡ decode_data → Joins (decode_step (joiner_of g last gather) body) gather message r gather' message' →
        Joins (packet_step (joiner_of g last gather) body) gather message r gather' message'
    unfolding packet_step
    judges_decode i o k = becomes (simp (opcode_is body q, source_is body q, status_is body q, sym p.is ∙ e, eq-eqb h.source reader f, sym w.is ∙ i, eq-eqb h.opcode decode_data o)) k
