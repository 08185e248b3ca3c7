-- An event and its lines, from what the hub's call promises; then one character. Assumes nothing.
use Prim.Native.Nat.{ℕ, ◌≤◌}
use mathlib.Core.Path.{◌≡◌, refl, sym, ap, ◌∙◌}
use mathlib.Core.Bool.{false}
use mathlib.Core.List.{List, [], ◌∷◌, ◌++◌, flat_map, append_assoc, append-nil}
use native.Mathlib.Omega.{arith}
use lib.ListN.{length, take, drop}
use lib.Seq.{take-append_seam, drop_at, length-take-le}
use borrow.Author.Tests.{le-ltb}
use Rattle.words.specs.Lists.{over}
use Rattle.words.specs.Machine.{Done, given}
use Rattle.words.proofs.Lists.{take_over}
use Rattle.packet.specs.Opcodes.{host}
use Rattle.packet.specs.Packet.{seal, reply_body}
use Rattle.packet.specs.Refusals.{nak_bytes}
use Rattle.packet.specs.Sizes.{message_size}
use Rattle.packet.specs.declared.Refusal.TheVariants.{Barred}
use Rattle.packet.specs.declared.Reply.TheVariants.{Ack}
use Rattle.framer.specs.Behind.{framed}
use Rattle.framer.specs.declared.Event.{Event}
use Rattle.framer.specs.declared.Event.TheVariants as event
use Rattle.hub.specs.Joiner.{Joiner, Output, added, repeated, handed, refused, answered, bytes_of, piece_in, barring}
use Rattle.hub.specs.Hub.{HubState, hub_step}
use Rattle.hub.specs.Promises.{told_of, answer_of, message_of, state_of, hub_answer_size, too_small, Hears}
use Rattle.hub.specs.declared.Hub.{Hub}
use Rattle.hub.specs.declared.Taken.{Taken as HubTaken}
use Rattle.hub.proofs.Outcomes.{Outcome, nothing, plain, bars, again, more, whole, event_happens}
use Rattle.listing.specs.Lines.{answer_line}
use Rattle.listing.specs.Listing.{skips, goes}
use Rattle.listing.specs.Promises.{Takes}
use Rattle.std.proofs.Common.{None, ◌⊎◌, inl, inr}
use Rattle.listing.specs.declared.Token.TheVariants.{Nothing, Byte, CharacterGap, MessageGap, Sign, Lone}
use Rattle.listing.specs.declared.Taken.{Taken}
use Rattle.listing.proofs.Rooms.{most_over, writes_none}
use Rattle.hub_lister.specs.declared.Lister.{Lister}
use Rattle.hub_lister.specs.declared.Buffers.{Buffers}
use Rattle.listing.specs.declared.Page.{Page}
use Rattle.hub_lister.specs.Listing.{output_line, happens, acts}
use Rattle.hub_lister.specs.Promises.{SameBuffers, count_of, told_line, Stops, Happens, Characters, PutsLines}

-- ---- rooms

front_over : (p room rest : List ℕ) → take (length p) (over p room ++ rest) ≡ p
unfolding over
front_over p room rest = rw append_assoc (take-append_seam p (drop (length p) room ++ rest))

-- A part from the second byte on that was lent and has come back.
pub behind_first : (m part rest : List ℕ) → 1 ≤ length m → drop 1 (take 1 m ++ (part ++ rest)) ≡ part ++ rest
behind_first m part rest h = drop_at (take 1 m) (part ++ rest) 1 (length-take-le 1 m h)

-- ---- what is told, by its name

count_told : (told : List Output) → count_of (told_of told) ≤ length (message_of told)
unfolding told_of message_of
count_told [] = omega arith
count_told (added ∷ xs) = omega arith
count_told (repeated ∷ xs) = omega arith
count_told (handed code bytes ∷ xs) = omega arith
count_told (refused r ∷ xs) = omega arith
count_told (answered bytes ∷ xs) = count_told xs

given_lines : (b : List ℕ) → answer_line (answer_of (given answered b)) ≡ flat_map output_line (given answered b)
unfolding given answer_of flat_map output_line answer_line
given_lines [] = refl
given_lines (x ∷ xs) = sym (append-nil (answer_line (x ∷ xs)))

-- The lines of an outcome: the message that stands in m from its second byte on, then the answer.
lines_told : {least : ℕ} {j : Joiner} {body : List ℕ} {d : Done Joiner Output} (part rest m : List ℕ) → Outcome least j body d → drop 1 m ≡ over (message_of d.told) part ++ rest →
    told_line (told_of d.told) m ++ answer_line (answer_of d.told) ≡ flat_map output_line d.told
unfolding barring told_line told_of answer_of message_of flat_map output_line answer_line
lines_told part rest m nothing e = refl
lines_told part rest m (plain {x = x} l n c) e = given_lines (nak_bytes host x)
lines_told part rest m (bars l) e = given_lines (nak_bytes host Barred)
lines_told part rest m (again b) e = sym (append-nil (answer_line (seal (reply_body host Ack))))
lines_told part rest m (more b n) e = sym (append-nil (answer_line (seal (reply_body host Ack))))
lines_told {j = j} {body} part rest m (whole b n) e =
    let bytes : List ℕ = bytes_of j.gathered ++ piece_in body in
    let there : take (length bytes) (drop 1 m) ≡ bytes = ap (λ (s : List ℕ). take (length bytes) s) e ∙ front_over bytes part rest in
    rw (there, append-nil (answer_line (seal (reply_body host Ack)))) refl

-- ---- what the hub's call promises where both rooms have their size

module _ {hub : Hub} {line gather answer part : List ℕ} {e : Event} {a : HubTaken} {line' gather' answer' part' : List ℕ}
    (h : Hears hub line gather answer part e a line' gather' answer' part') (small : length answer ≡ hub_answer_size) (size : message_size ≤ length part) where
  enough : too_small answer part ≡ false
  unfolding too_small
  enough = simp (le-ltb (length answer) hub_answer_size (omega arith), le-ltb (length part) message_size size)

  heard_told : a.told ≡ told_of (hub_step (state_of hub line gather) e).told
  heard_told = simp enough at (ap (λ (r : HubTaken). r.told) h.is)

  heard_count : a.answer ≡ length (answer_of (hub_step (state_of hub line gather) e).told)
  heard_count = simp enough at (ap (λ (r : HubTaken). r.answer) h.is)

  heard_next : state_of a.hub line' gather' ≡ (hub_step (state_of hub line gather) e).next
  heard_next = simp enough at h.next

  heard_answer : answer' ≡ over (answer_of (hub_step (state_of hub line gather) e).told) answer
  heard_answer = simp enough at h.answer_is

  heard_message : part' ≡ over (message_of (hub_step (state_of hub line gather) e).told) part
  heard_message = simp enough at h.message_is

  pub few_message : count_of a.told ≤ length part'
  few_message =
      let n = count_told (hub_step (state_of hub line gather) e).told in
      let m = most_over (message_of (hub_step (state_of hub line gather) e).told) part in
      rw (heard_told, heard_message) (omega arith)

  pub few_answer : a.answer ≤ length answer'
  few_answer = rw (heard_count, heard_answer) (most_over (answer_of (hub_step (state_of hub line gather) e).told) answer)

  -- The message stands in m from its second byte on.
  pub happened : (rest : List ℕ) {m : List ℕ} {b b' : Buffers} {p p' : Page} → b.line.now ≡ line → b.gather.now ≡ gather → b'.line.now ≡ line' → b'.gather.now ≡ gather' → drop 1 m ≡ part' ++ rest →
      PutsLines a.told a.answer answer' m p p' → SameBuffers b b' → Happens hub b e p (record { hub = a.hub; waiting = None; ended = false }) b' p'
  unfolding happens goes hub_step framed
  happened rest {m} l g l' g' d k s =
      let state : HubState = state_of hub line gather in
      let os : List Output = (hub_step state e).told in
      let answer_is : take a.answer answer' ≡ answer_of os = rw heard_answer (take_over (answer_of os) answer a.answer heard_count) in
      let lines : told_line a.told m ++ answer_line (take a.answer answer') ≡ flat_map output_line os =
      rw (heard_told, answer_is) (lines_told part rest m (event_happens state e).outcome (d ∙ rw heard_message refl)) in
      record { steps = rw (l, g, l', g') (record { next = rw heard_next refl; writes = rw lines at k.writes }); same = s }

-- ---- a character, by its token

module _ {l : Lister} {c : ℕ} {t : Taken} (k : Takes l.waiting c t) {b : Buffers} {p : Page} where
  pub skipped : p.at ≤ length p.room.now → t.token ≡ Nothing → Characters l b c p (record { hub = l.hub; waiting = t.waiting; ended = false }) b p
  unfolding acts skips
  skipped h e = record { steps = rw (← k.is, e) (record { next = refl; writes = writes_none h }); same = record { line = refl; gather = refl } }

  module _ {r : Lister} {b' : Buffers} {p' : Page} where
    pub byte_heard : {x : ℕ} → t.token ≡ Byte x → Happens l.hub b (event.Byte x) p r b' p' → Characters l b c p r b' p'
    unfolding acts
    byte_heard e s = record { steps = rw (← k.is, e) s.steps; same = s.same }

    pub gap_heard : t.token ≡ CharacterGap → Happens l.hub b event.CharacterGap p r b' p' → Characters l b c p r b' p'
    unfolding acts
    gap_heard e s = record { steps = rw (← k.is, e) s.steps; same = s.same }

    pub message_gap_heard : t.token ≡ MessageGap → Happens l.hub b event.MessageGap p r b' p' → Characters l b c p r b' p'
    unfolding acts
    message_gap_heard e s = record { steps = rw (← k.is, e) s.steps; same = s.same }

  pub stop_read : {r : Lister} {p' : Page} → ((x : ℕ) × (t.token ≡ Sign x)) ⊎ (t.token ≡ Lone) → Stops l.hub p r p' → Characters l b c p r b p'
  unfolding acts
  stop_read (inl (x, e)) s = record { steps = rw (← k.is, e) (s.steps b.line.now b.gather.now); same = record { line = refl; gather = refl } }
  stop_read (inr e) s = record { steps = rw (← k.is, e) (s.steps b.line.now b.gather.now); same = record { line = refl; gather = refl } }
