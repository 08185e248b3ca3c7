-- The level of the whole hub: what the framer found goes to the joiner, and control value and buffers stand for the next state. Assumes nothing.
use Prim.Native.Nat.{ℕ, ◌+◌, ◌≤◌, ◌<◌}
use mathlib.Core.Path.{◌≡◌, refl, sym, ap, ◌∙◌}
use mathlib.Core.Bool.{Bool, true, false}
use mathlib.Core.List.{List, [], ◌++◌}
use native.Mathlib.Omega.{arith}
use lib.ListN.{length, take, drop, length-take, length-drop, length-append, take-append-drop}
use lib.Seq.{length-take-le}
use borrow.Author.Tests.{le-leb, le-ltb, lt-ltb}
use Rattle.words.specs.Lists.{pick, over, over_at}
use Rattle.words.specs.Machine.{Done, through}
use Rattle.words.proofs.Lists.{take_over, over_nil, never, part_over}
use Rattle.words.proofs.Machine.{through_one}
use Rattle.packet.specs.Packet.{unmarked}
use Rattle.packet.specs.Sizes.{body_size, message_size}
use Rattle.packet.specs.declared.Refusal.{Refusal}
use Rattle.packet.specs.declared.Head.{Head}
use Rattle.packet.proofs.Marks.{length_unmarked, unmarked_pick}
use Rattle.framer.specs.Framer.{Line, hearing, Heard, packet, refused as noPacket, silent, framer_step}
use Rattle.framer.specs.Behind.{framed}
use Rattle.framer.specs.Promises.{line_of, begun_of}
use Rattle.framer.specs.Halves.{half_of, last_of, line_in, kept_in, received_in, tells_nothing, accepted_of, Listens, Received, Kept as Keeping}
use Rattle.framer.specs.declared.Event.{Event}
use Rattle.framer.specs.declared.Event.TheVariants.{Byte, CharacterGap, MessageGap}
use Rattle.framer.specs.declared.Halves.{Halves}
use Rattle.framer.specs.declared.Listened.{Listened}
use Rattle.framer.specs.declared.Found.TheVariants.{Nothing, Packet, Refused}
use Rattle.framer.proofs.TwoHalves.{line_listened, kept_listened, listened_nothing, listened_refused, listened_packet, line_behind, kept_behind, control_behind}
use Rattle.hub.specs.Joiner.{Gathered, none, some, Joiner, Output, refusing, bytes_of}
use Rattle.hub.specs.Hub.{HubState, packet_step, heard_step, cleared, hub_step}
use Rattle.hub.specs.Promises.{told_of, answer_of, message_of, sound_of, gathered_of, joiner_of, gathering_of, state_of, accepts, control_after, cleared_control, hub_answer_size, too_small, name_bytes, Hears, Gatherings, Joins, Stays, Settles, Receives, Steps, NoRoom, Cleared, Writes}
use Rattle.hub.specs.declared.Gathering.{Gathering}
use Rattle.hub.specs.declared.Hub.{Hub}
use Rattle.hub.specs.declared.Told.TheVariants as told
use Rattle.hub.specs.declared.Joined.{Joined}
use Rattle.hub.specs.declared.Stepped.{Stepped}
use Rattle.hub.specs.declared.Taken.{Taken}
use Rattle.hub.proofs.Control.{refusing_hands_out}
use Rattle.hub.proofs.Joining.{gathered_over, still}
use Rattle.hub.proofs.Outcomes.{Kept, kept, packet_outcome, event_happens, name_answers}

-- ---- what is gathered

-- A control value of what is gathered, with the buffer, stands for it.
join_back : (b : Bool) (g : Gathered) (last gather : List ℕ) → length (bytes_of g) ≤ message_size →
    joiner_of (sound_of (gathering_of b g)) last (over (bytes_of g) gather) ≡ record { barred = b; last = unmarked last; gathered = g }
unfolding joiner_of sound_of gathered_of bytes_of
join_back b none last gather h = refl
join_back b (some code bytes) last gather h = simp (le-leb (length bytes) message_size h, take_over bytes gather (length bytes) refl)

-- A control value stands for at most 4,096 bytes.
few_by : (g : Gathering) (last gather : List ℕ) (d : Bool) → g.begun ≡ d → length gather ≡ message_size → length (bytes_of (joiner_of g last gather).gathered) ≤ message_size
unfolding joiner_of gathered_of bytes_of
few_by g last gather true e h = simp (e, length-take) (omega arith)
few_by g last gather false e h = simp e (omega arith)

pub few_joiner : (g : Gathering) (last gather : List ℕ) → length gather ≡ message_size → length (bytes_of (joiner_of g last gather).gathered) ≤ message_size
few_joiner g last gather h = few_by g last gather g.begun refl h

-- ---- a step of the hub

-- The joiner and the framer's step that a control value, the buffers and an event stand for.
abbrev joiner_at : Hub → List ℕ → List ℕ → Joiner
joiner_at hub line gather = joiner_of (sound_of hub.gathering) (kept_in hub.line line) gather

abbrev framer_at : Hub → List ℕ → Event → Done Line Heard
framer_at hub line e = framer_step (line_in hub.line line) e

abbrev halves_behind : Bool → Halves → ℕ → Halves
halves_behind a h n = pick a (accepted_of h n) h

module _ {hub : Hub} {line : List ℕ} {e : Event} {l : Listened} {line' : List ℕ} (k : Listens hub.line line e l line') where
  -- The joiner's step on what was told, d, with the control value and the buffers that it leaves.
  settled : {d : Done Joiner Output} {n : ℕ} {j : Joined} {r : Stepped} {gather message gather' message' : List ℕ} →
      tells_nothing hub.line line e ≡ false →
      through heard_step (joiner_at hub line gather) (framer_at hub line e).told ≡ d →
      Kept (joiner_at hub line gather) (received_in l.halves line' n) d →
      n ≤ body_size →
      (accepts d.told ≡ true → length (received_in l.halves line' n) ≡ n) →
      (accepts d.told ≡ true → (framer_at hub line e).next ≡ hearing []) →
      Joins d gather message j gather' message' →
      Settles l.halves n j r →
      Steps hub line gather message e r line' gather' message'
  unfolding framed state_of control_after joiner_of accepts
  settled {d} {n} {j} {r} {gather} {message} loud t k₁ h size idle joins settles =
      let a = accepts d.told in
      let g = gathering_of d.next.barred d.next.gathered in
      let next : Hub = record { line = halves_behind a l.halves n; gathering = g } in
      let hub_is : r.hub ≡ next = ap (λ (s : Stepped). s.hub) settles.is ∙ rw (joins.told_is, joins.gathering_is) refl in
      let last_is : unmarked (kept_in next.line line') ≡ d.next.last =
      ap unmarked (kept_behind k a n h) ∙ (unmarked_pick a (received_in l.halves line' n) (kept_in hub.line line) ∙ sym k₁.last_is) in
      let long : a ≡ true → length d.next.last ≡ n = λ q. rw (k₁.last_is, q) (length_unmarked (received_in l.halves line' n) ∙ size q) in
      record {
        told_is = ap (λ (s : Stepped). s.told) settles.is ∙ (joins.told_is ∙ ap (λ (x : Done Joiner Output). told_of x.told) (sym t));
        hub_is = hub_is ∙ sym (simp loud (rw (t, ← control_behind k a n d.next.last long) refl));
        next = rw (hub_is, joins.gather_is, t, line_behind k a n idle, join_back d.next.barred d.next.gathered (kept_in next.line line') gather k₁.few, last_is) refl;
        line_is = k.buffer_is;
        gather_is = joins.gather_is ∙ ap (λ (x : Done Joiner Output). over (bytes_of x.next.gathered) gather) (sym t);
        message_is = joins.message_is ∙ ap (λ (x : Done Joiner Output). over (message_of x.told) message) (sym t);
      }

  -- Where the framer told nothing, only its own part has changed.
  pub step_nothing : {gather message : List ℕ} {r : Stepped} → l.found ≡ Nothing → Stays l.halves hub.gathering told.Nothing r → Steps hub line gather message e r line' gather message
  unfolding framed state_of control_after tells_nothing silent through accepts told_of message_of joiner_of
  step_nothing {gather} {message} q stays =
      let t = listened_nothing k q in
      record {
        told_is = ap (λ (s : Stepped). s.told) stays.is ∙ rw t refl;
        hub_is = ap (λ (s : Stepped). s.hub) stays.is ∙ rw (t, k.is) refl;
        next = rw (stays.is, t, line_listened k, kept_listened k) refl;
        line_is = k.buffer_is;
        gather_is = sym (rw t (gathered_over (sound_of hub.gathering) gather));
        message_is = sym (rw t (over_nil message));
      }

  -- Where the framer refused, what is gathered has been put in order too.
  pub step_refused : {gather message : List ℕ} {r : Stepped} {g : Gathering} {x : Refusal} → length gather ≡ message_size → l.found ≡ Refused x → Gatherings hub.gathering g →
      Stays l.halves g (told.Refused x) r → Steps hub line gather message e r line' gather message
  unfolding tells_nothing silent heard_step accepts told_of
  step_refused {gather} {message} {g = g} {x = x} room q sound stays =
      let t = listened_refused k q in
      settled {n = 0}
      (rw t refl)
      (rw t (through_one heard_step (joiner_at hub line gather) (noPacket x)))
      (record { few = few_joiner (sound_of hub.gathering) (kept_in hub.line line) gather room; last_is = refl })
      (omega arith)
      (λ z. never (cc))
      (λ z. never (cc))
      (still (sound_of hub.gathering) (kept_in hub.line line) gather message (refusing x) (rw sound.is at sound.sound) room refl refl (refusing_hands_out x) (record { is = refl }))
      (record { is = rw sound.is at stays.is })

  pub step_packet : {gather message gather' message' : List ℕ} {r : Stepped} {g : Gathering} {h : Head} → length gather ≡ message_size → l.found ≡ Packet h → Gatherings hub.gathering g →
      Receives l.halves g h.length line' gather message r gather' message' → Steps hub line gather message e r line' gather' message'
  unfolding tells_nothing silent heard_step
  step_packet {gather} {message} {gather'} {message'} {r} {g} {h} room q sound receives =
      let n = h.length in
      let w = listened_packet k q in
      let most = w.most in
      settled
      (rw w.told_is refl)
      (rw w.told_is (through_one heard_step (joiner_at hub line gather) (packet (received_in l.halves line' n))))
      (kept (few_joiner (sound_of hub.gathering) (kept_in hub.line line) gather room) (packet_outcome (joiner_at hub line gather) (received_in l.halves line' n)))
      most
      (λ z. w.long)
      (λ z. w.idle)
      (rw (sound.is, kept_listened k) at receives.joins)
      receives.settles

-- ---- a packet that was received

pub received_packet : {h : Halves} {n : ℕ} {line body last gather message gather' message' : List ℕ} {g : Gathering} {j : Joined} {r : Stepped} →
    Received h line n body →
    Keeping h line last →
    Joins (packet_step (joiner_of g last gather) body) gather message j gather' message' →
    Settles h n j r →
    Receives h g n line gather message r gather' message'
received_packet {j = j} received last joins settles = record { joined = j; joins = rw (received.is, last.is) at joins; settles = settles }

-- ---- one event

-- Number 13.
hear_small : {hub : Hub} {line gather answer message : List ℕ} {e : Event} {r : Taken} → too_small answer message ≡ true → NoRoom hub r →
    Hears hub line gather answer message e r line gather answer message
hear_small {hub} {line} {gather} {answer} {message} t k =
    record {
      is = simp t k.is;
      next = simp (t, k.is);
      line_is = simp t;
      gather_is = simp t;
      answer_is = simp (t, over_nil);
      message_is = simp (t, over_nil);
    }

pub hear_answer : {hub : Hub} {line gather answer message : List ℕ} {e : Event} {r : Taken} → length answer < hub_answer_size → NoRoom hub r →
    Hears hub line gather answer message e r line gather answer message
unfolding too_small
hear_answer {answer = answer} h k = hear_small (simp (lt-ltb (length answer) hub_answer_size h)) k

pub hear_message : {hub : Hub} {line gather answer message front : List ℕ} {e : Event} {r : Taken} → hub_answer_size ≤ length answer → front ≡ take hub_answer_size answer →
    length message < message_size → NoRoom hub r → Hears hub line gather answer message e r line gather (front ++ drop hub_answer_size answer) message
unfolding too_small
hear_message {answer = answer} {message = message} a same h k =
    rw (same, take-append-drop hub_answer_size answer) (hear_small (simp (le-ltb (length answer) hub_answer_size a, lt-ltb (length message) message_size h)) k)

cleared_state : (e : Event) (hub : Hub) (line gather : List ℕ) (s : HubState) → state_of hub line gather ≡ s → state_of (cleared_control e hub) line gather ≡ cleared e s
unfolding cleared state_of line_in line_of begun_of half_of joiner_of sound_of gathered_of kept_in last_of unmarked
cleared_state (Byte b) hub line gather s q = q
cleared_state CharacterGap hub line gather s q = q
cleared_state MessageGap hub line gather s q = refl

-- The front of a room was lent, and came back with q at its own front.
front_over : (k : ℕ) (q room part : List ℕ) → k ≤ length room → length (part ++ drop k room) ≡ length room → part ≡ over q (take k room) → part ++ drop k room ≡ over q room
unfolding over over_at
front_over k q room part h l e = part_over 0 k q room part fits (omega arith) e
  where
    fits : length q ≤ k
    fits =
        let long : length (over q (take k room)) ≡ length q + length (drop (length q) (take k room)) = length-append q (drop (length q) (take k room)) in
        let whole : length (take k room) ≡ k = length-take-le k room h in
        let same = ap length e in
        let all = length-append part (drop k room) in
        let rest = length-drop k room in
        omega arith

pub hear_taken : {hub : Hub} {line gather answer message front room line' gather' front' room' : List ℕ} {e : Event} {s : Stepped} {count : ℕ} {next : Hub} →
    hub_answer_size ≤ length answer →
    front ≡ take hub_answer_size answer →
    length (front' ++ drop hub_answer_size answer) ≡ length answer →
    message_size ≤ length message →
    room ≡ take message_size message →
    length (room' ++ drop message_size message) ≡ length message →
    Steps hub line gather room e s line' gather' room' →
    Writes (name_bytes s.told) front count front' →
    Cleared s.hub e next →
    Hears hub line gather answer message e (record { hub = next; told = s.told; answer = count }) line' gather' (front' ++ drop hub_answer_size answer) (room' ++ drop message_size message)
unfolding too_small hub_step framed
hear_taken {hub} {line} {gather} {answer} {message} {front} {room} {line'} {gather'} {front'} {room'} {e} {s} {count} {next} a first all m second long steps writes clears =
    let p = le-ltb (length answer) hub_answer_size a in
    let q = le-ltb (length message) message_size m in
    let ts = (framed heard_step (state_of hub line gather) e).told in
    let name : name_bytes s.told ≡ answer_of ts = ap name_bytes steps.told_is ∙ name_answers (event_happens (state_of hub line gather) e).outcome in
    record {
      is = simp (p, q) (rw (clears.is, steps.hub_is, steps.told_is, writes.is, name) refl);
      next = simp (p, q) (rw clears.is (cleared_state e s.hub line' gather' (framed heard_step (state_of hub line gather) e).next steps.next));
      line_is = simp (p, q) steps.line_is;
      gather_is = simp (p, q) steps.gather_is;
      answer_is = simp (p, q) (front_over hub_answer_size (name_bytes s.told) answer front' a all (rw first at writes.answer_is) ∙ ap (λ (b : List ℕ). over b answer) name);
      message_is = simp (p, q) (front_over message_size (message_of ts) message room' m long (rw second at steps.message_is));
    }
