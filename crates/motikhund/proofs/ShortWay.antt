-- `mk_go_on` beside `mk_hub_hear` and `mk_reader_hear`: it makes no test for 13, so it is for callers whose rooms have full size, and where it takes
-- an event there, whatever those calls do with the same event is that. The control bytes read as the same; they can differ only where a flag's
-- byte was neither 1 nor 0, which the short way leaves and the call puts in order. Assumes nothing.
use Prim.Native.Nat.{ℕ, ◌+◌, ◌-◌, ◌≤◌}
use mathlib.Core.Path.{◌≡◌, refl, sym, ap, ◌∙◌}
use mathlib.Core.Bool.{Bool, true, false}
use mathlib.Core.List.{List, [], ◌∷◌, ◌++◌}
use native.Mathlib.Omega.{arith}
use lib.Dec.{eqb, leb, ltb}
use lib.ListN.{length, get_or, take, drop, length-take, take-append-drop}
use lib.Seq.{get_or-drop}
use borrow.Author.Tests.{le-leb, ltb-true, eqb-true}
use Rattle.words.specs.Lists.{pick, over}
use Rattle.words.proofs.Lists.{never, length_over, drop_over, same_refl}
use Rattle.framer.specs.Halves.{halves_with, tells_nothing, line_in, goes_on, going_by, listened_of, buffer_after, on, left}
use Rattle.framer.specs.Halves as halves
use Rattle.framer.specs.Framer.{hearing}
use Rattle.framer.specs.Promises.{control_of}
use Rattle.framer.specs.declared.Event.{Event}
use Rattle.framer.specs.declared.Event.TheVariants.{Byte, CharacterGap, MessageGap}
use Rattle.framer.specs.declared.Framer.{Framer}
use Rattle.framer.specs.declared.Going.{Going}
use Rattle.framer.specs.declared.Going.TheVariants.{On, Woken, Left}
use Rattle.framer.specs.declared.Halves.{Halves}
use Rattle.framer.specs.declared.Listened.{Listened}
use Rattle.packet.specs.Sizes.{packet_size, message_size}
use Rattle.hub.specs.Promises as joining
use Rattle.hub.specs.declared.Taken.{Taken}
use Rattle.hub.proofs.ShortWay as joining-short
use Rattle.reader.specs.Reader.{reader_answer_size}
use Rattle.reader.specs.declared.Taken.{Taken as Commanded}
use Rattle.reader.proofs.ShortWay as reading-short
use Rattle.motikhund.specs.Control.{going_size, hub_control_size, reader_control_size, number_bytes, number_in, flag_in, framer_in, framer_bytes, halves_in, hub_in, reader_in, permanent_changed}
use Rattle.motikhund.specs.Lent.{Need, at_least, Enough, more}
use Rattle.motikhund.specs.Numbers.{is_event, event_of, hub_number, hub_values, reader_number, reader_values}
use Rattle.motikhund.specs.Promises.{went_on, FrontAfter, GoesOn, HubHears, ReaderHears}
use Rattle.motikhund.proofs.Refusing.{hub_room, reader_room}
use Rattle.motikhund.proofs.Storing.{number_long, framer_long}

-- ---- the event

-- It is one of the two kinds.
going_event : (f : Framer) (second : Bool) (line : List ℕ) (n : ℕ) → goes_on f second line (event_of n) ≡ true → (is_event n ≡ true) × (event_of n ≡ MessageGap → ⊥)
unfolding goes_on event_of is_event
going_event f second line n q = by (ltb n 256) (eqb n 256) refl refl q
  where
    by : (a b : Bool) → ltb n 256 ≡ a → eqb n 256 ≡ b → goes_on f second line (pick a (Byte n) (pick b CharacterGap MessageGap)) ≡ true →
        (leb n 257 ≡ true) × (pick a (Byte n) (pick b CharacterGap MessageGap) ≡ MessageGap → ⊥)
    by true b e d q = let h = ltb-true n 256 e in (le-leb n 257 (omega arith), λ z. never (cc))
    by false true e d q = let h = eqb-true n 256 d in (le-leb n 257 (omega arith), λ z. never (cc))
    by false false e d q = never (cc)

-- The framer tells nothing of it, whatever the last packet's length.
going_tells : (f : Framer) (second : Bool) (line : List ℕ) (last : ℕ) (e : Event) → goes_on f second line e ≡ true → tells_nothing (halves_with f second last) line e ≡ true
unfolding goes_on tells_nothing line_in
going_tells f second line last (Byte b) q = q
going_tells f second line last CharacterGap q = q
going_tells f second line last MessageGap q = never (cc)

-- ---- the front of a control value

abbrev count_of : Going → ℕ
count_of (On n) = n
count_of Woken = 0
count_of Left = 0

first_enough : {n m : ℕ} {s : List ℕ} {needs : List Need} → Enough (at_least n s ∷ needs) → m ≤ n → m ≤ length s
first_enough (more l e) h = omega arith

-- What the short way did tells the framer behind it.
on_next : (d d' : Bool) (n m : ℕ) → On n ≡ going_by d d' m → (d ≡ d') × (n ≡ m)
on_next true true n m e = (refl, ap count_of e)
on_next true false n m e = by (eqb m 0) e
  where
    by : (b : Bool) → On n ≡ pick b Woken Left → (true ≡ false) × (n ≡ m)
    by true e = never (cc)
    by false e = never (cc)
on_next false true n m e = never (cc)
on_next false false n m e = (refl, ap count_of e)

woken_next : (d d' : Bool) (m : ℕ) → Woken ≡ going_by d d' m → (d' ≡ false) × (m ≡ 0)
woken_next true true m e = never (cc)
woken_next true false m e = by (eqb m 0) refl e
  where
    by : (b : Bool) → eqb m 0 ≡ b → Woken ≡ pick b Woken Left → (false ≡ false) × (m ≡ 0)
    by true f e = (refl, eqb-true m 0 f)
    by false f e = never (cc)
woken_next false true m e = never (cc)
woken_next false false m e = never (cc)

-- What is read of it is read of it alone.
front_reads : (p rest : List ℕ) → length p ≡ 10 → (framer_in (p ++ rest) ≡ framer_in p) × (flag_in (p ++ rest) 9 ≡ flag_in p 9)
unfolding number_in framer_in
front_reads [] rest e = absurd (omega arith)
front_reads (a ∷ []) rest e = absurd (omega arith)
front_reads (a ∷ b ∷ []) rest e = absurd (omega arith)
front_reads (a ∷ b ∷ c ∷ []) rest e = absurd (omega arith)
front_reads (a ∷ b ∷ c ∷ d ∷ []) rest e = absurd (omega arith)
front_reads (a ∷ b ∷ c ∷ d ∷ f ∷ []) rest e = absurd (omega arith)
front_reads (a ∷ b ∷ c ∷ d ∷ f ∷ g ∷ []) rest e = absurd (omega arith)
front_reads (a ∷ b ∷ c ∷ d ∷ f ∷ g ∷ h ∷ []) rest e = absurd (omega arith)
front_reads (a ∷ b ∷ c ∷ d ∷ f ∷ g ∷ h ∷ i ∷ []) rest e = absurd (omega arith)
front_reads (a ∷ b ∷ c ∷ d ∷ f ∷ g ∷ h ∷ i ∷ j ∷ []) rest e = absurd (omega arith)
front_reads (a ∷ b ∷ c ∷ d ∷ f ∷ g ∷ h ∷ i ∷ j ∷ k ∷ []) rest e = (refl, refl)
front_reads (a ∷ b ∷ c ∷ d ∷ f ∷ g ∷ h ∷ i ∷ j ∷ k ∷ l ∷ p) rest e = absurd (omega arith)

-- What the short way leaves, and what the framer's own call leaves beside it.
record Went (control line : List ℕ) (n : ℕ) (front' line₁ : List ℕ) : Type 0 where
  next : Framer
  named : is_event n ≡ true
  no_message_gap : event_of n ≡ MessageGap → ⊥
  tells : tells_nothing (halves_in control) line (event_of n) ≡ true
  halves_are : (listened_of (halves_in control) line (event_of n)).halves ≡ halves_with next (flag_in control 9) (number_in (drop 10 control))
  line_is : line₁ ≡ buffer_after (halves_in control) line (event_of n)
  front_read : halves_in (over front' control) ≡ halves_with next (flag_in control 9) (number_in (drop 10 control))
  behind : (i : ℕ) → 10 ≤ i → drop i (over front' control) ≡ drop i control

module _ (control : List ℕ) (long : 10 ≤ length control) where
  size : length (take 10 control) ≡ 10
  size = simp length-take (omega arith)

  -- The front is read as the whole is.
  whole_reads : (framer_in (take 10 control) ≡ framer_in control) × (flag_in (take 10 control) 9 ≡ flag_in control 9)
  whole_reads =
      let w = front_reads (take 10 control) (drop 10 control) size in
      let e = take-append-drop 10 control in
      (sym w.0 ∙ ap framer_in e, sym w.1 ∙ ap (λ (s : List ℕ). flag_in s 9) e)

  -- The front with its first bytes, at most the framer's, written anew.
  module _ (bytes front' : List ℕ) (is : front' ≡ over bytes (take 10 control)) (few : length bytes ≤ 9) where
    front_long : length front' ≡ 10
    front_long = let s = size in ap length is ∙ (length_over bytes (take 10 control) (omega arith) ∙ size)

    -- A byte behind them is as it was.
    byte_same : (i : ℕ) → length bytes ≤ i → get_or front' i 0 ≡ get_or (take 10 control) i 0
    byte_same i h =
        let e : length bytes + (i - length bytes) ≡ i = omega arith in
        sym (rw e at (get_or-drop (length bytes) front' (i - length bytes) 0))
        ∙ (ap (λ (s : List ℕ). get_or s (i - length bytes) 0) (ap (drop (length bytes)) is ∙ drop_over bytes (take 10 control) (length bytes) (omega arith))
        ∙ (rw e at (get_or-drop (length bytes) (take 10 control) (i - length bytes) 0)))

    second_same : flag_in front' 9 ≡ flag_in control 9
    second_same = ap (λ (x : ℕ). eqb x 1) (byte_same 9 few) ∙ whole_reads.1

    front_left : (next : Framer) → framer_in front' ≡ next →
        (halves_in (over front' control) ≡ halves_with next (flag_in control 9) (number_in (drop 10 control))) × ((i : ℕ) → 10 ≤ i → drop i (over front' control) ≡ drop i control)
    unfolding halves_in over
    front_left next reads =
        let w = front_reads front' (drop (length front') control) front_long in
        let b = drop_over front' control 10 (omega (arith, front_long)) in
        (rw (w.0, w.1, b, reads, second_same) refl, λ i h. drop_over front' control i (omega (arith, front_long)))

  -- What the short way wrote reads as the framer behind the event.
  front_after : (g : Going) (next : Framer) (front' : List ℕ) → true ≡ went_on g → g ≡ going_by (framer_in (take 10 control)).deaf next.deaf next.count → FrontAfter g (take 10 control) front' →
      (halves_in (over front' control) ≡ halves_with next (flag_in control 9) (number_in (drop 10 control))) × ((i : ℕ) → 10 ≤ i → drop i (over front' control) ≡ drop i control)
  unfolding framer_in
  front_after (On n) next front' t e k =
      let u = on_next (flag_in (take 10 control) 8) next.deaf n next.count e in
      let long = number_long n in
      let same = byte_same (number_bytes n) front' k.control_is (omega arith) 8 (omega arith) in
      front_left (number_bytes n) front' k.control_is (omega arith) next (rw (k.reads, u.1) (ap (λ (d : Bool). record { count = next.count; deaf = d }) (ap (λ (x : ℕ). eqb x 1) same ∙ u.0)))
  front_after Woken next front' t e k =
      let u = woken_next (flag_in (take 10 control) 8) next.deaf next.count e in
      let long = framer_long (control_of (hearing [])) in
      front_left (framer_bytes (control_of (hearing []))) front' k.control_is (omega arith) next (k.reads ∙ rw (u.0, u.1) refl)
  front_after Left next front' t e k = never (cc)

  halves_read : halves_with (framer_in (take 10 control)) (flag_in (take 10 control) 9) (number_in (drop 10 control)) ≡ halves_in control
  unfolding halves_in
  halves_read = let w = whole_reads in rw (w.0, w.1) refl

  went : (line : List ℕ) (n : ℕ) (front' line₁ : List ℕ) → GoesOn (take 10 control) line n true front' line₁ → Went control line n front' line₁
  went line n front' line₁ k = by k.going k.told k.front_is k.goes
    where
      by : (g : Going) → true ≡ went_on g → FrontAfter g (take 10 control) front' → halves.GoesOn (framer_in (take 10 control)) (flag_in (take 10 control) 9) line (event_of n) g line₁ →
          Went control line n front' line₁
      by Left t f (left q l) = never (cc)
      by g t f (on {next = next} s e q l) =
          let last = number_in (drop 10 control) in
          let u = going_event (framer_in (take 10 control)) (flag_in (take 10 control) 9) line n q in
          let w = front_after g next front' t e f in
          let k = l last in
          record {
            next = next;
            named = u.0;
            no_message_gap = u.1;
            tells = rw halves_read at (going_tells (framer_in (take 10 control)) (flag_in (take 10 control) 9) line last (event_of n) q);
            halves_are =
                sym
                (ap (λ (b : Bool). halves_with next b last) (sym whole_reads.1)
                ∙ (ap (λ (x : Listened). x.halves) k.is ∙ ap (λ (h : Halves). (listened_of h line (event_of n)).halves) halves_read));
            line_is = rw halves_read at k.buffer_is;
            front_read = w.0;
            behind = w.1;
          }

-- ---- the calls

-- Nothing told, the line as the short way leaves it, every other lent byte as it was, and control bytes that read as the same.
pub short_way_hub : {control line gather answer message front' line₁ control' line' gather' answer' message' values : List ℕ} {n r : ℕ} →
    GoesOn (take going_size control) line n true front' line₁ →
    Enough (at_least hub_control_size control ∷ at_least joining.hub_answer_size answer ∷ at_least message_size message ∷ []) →
    HubHears control line gather answer message n r control' line' gather' answer' message' values →
    (r ≡ 0)
    × (line' ≡ line₁)
    × (gather' ≡ gather)
    × (answer' ≡ answer)
    × (message' ≡ message)
    × (values ≡ 0 ∷ 0 ∷ 0 ∷ [])
    × (hub_in control' ≡ hub_in (over front' control))
unfolding hub_in
short_way_hub {control} {line} {front' = front'} {line₁} {n = n} k e h =
    let w = went control (first_enough e (omega arith)) line n front' line₁ k in
    let a = (h.asks.takes e).takes w.named in
    let s = joining-short.silent_hears a.hears (hub_room e) w.tells w.no_message_gap in (
      a.told ∙ ap (λ (t : Taken). hub_number t.told) s.0,
      s.1 ∙ sym w.line_is,
      s.2,
      s.3,
      s.4,
      a.values_are ∙ ap (λ (t : Taken). hub_values t.told t.answer) s.0,
      a.kept.reads ∙ (ap (λ (t : Taken). t.hub) s.0 ∙ rw (w.front_read, w.halves_are, w.behind 18 (omega arith)) refl),
    )

pub short_way_reader : {control line answers message answer copy front' line₁ control' line' answers' answer' copy' values : List ℕ} {n r : ℕ} →
    GoesOn (take going_size control) line n true front' line₁ →
    Enough (at_least reader_control_size control ∷ at_least reader_answer_size answer ∷ at_least packet_size copy ∷ []) →
    ReaderHears control line answers message answer copy n r control' line' answers' answer' copy' values →
    (r ≡ 0)
    × (line' ≡ line₁)
    × (answers' ≡ answers)
    × (answer' ≡ answer)
    × (copy' ≡ copy)
    × (values ≡ 0 ∷ 0 ∷ 0 ∷ 0 ∷ 0 ∷ 0 ∷ [])
    × (reader_in control' ≡ reader_in (over front' control))
unfolding reader_in reader_values permanent_changed
short_way_reader {control} {line} {front' = front'} {line₁} {n = n} k e h =
    let w = went control (first_enough e (omega arith)) line n front' line₁ k in
    let a = (h.asks.takes e).takes w.named in
    let s = reading-short.silent_hears a.hears (reader_room e) w.tells in (
      a.told ∙ ap (λ (t : Commanded). reader_number t.told t.outcome) s.0,
      s.1 ∙ sym w.line_is,
      s.2,
      s.3,
      s.4,
      a.values_are
          ∙ (ap (λ (t : Commanded). reader_values t.told t.answer t.outcome (permanent_changed (reader_in control) t.reader)) s.0
          ∙ rw (same_refl (reader_in control).device.table.permanent) refl),
      a.kept.reads
          ∙ (ap (λ (t : Commanded). t.reader) s.0 ∙ rw (w.front_read, w.halves_are, w.behind 18 (omega arith), w.behind 26 (omega arith), w.behind 57 (omega arith)) refl),
    )
