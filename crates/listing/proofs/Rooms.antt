-- Bytes put into a room one run behind the other. Assumes nothing.
use Prim.Native.Nat.{ℕ, ◌+◌, ◌<◌, ◌≤◌}
use mathlib.Core.Path.{◌≡◌, refl, sym, ap, ◌∙◌}
use mathlib.Core.Bool.{Bool, true, false}
use mathlib.Core.List.{List, [], ◌++◌, append_assoc}
use native.Mathlib.Omega.{arith}
use lib.ListN.{length, take, drop, length-append, take-append-drop}
use lib.Seq.{length-take-le, take_at, drop_at, drop-drop}
use lib.Dec.{leb}
use borrow.Author.Tests.{le-leb, lt-leb, leb-true}
use Rattle.words.specs.Lists.{over, over_at}
use Rattle.words.proofs.Lists.{length_over_at}
use Rattle.listing.specs.Lines.{fitting}
use Rattle.listing.specs.declared.Page.{Page}
use Rattle.listing.specs.Promises.{Puts, Writes, PutsLine, WritesOn}

-- A second run behind the first is one run of both.
pub over_at_then : (at n : ℕ) (p q room : List ℕ) → n ≡ at + length p → n ≤ length room → over_at n q (over_at at p room) ≡ over_at at (p ++ q) room
unfolding over_at over
over_at_then at n p q room e h =
    let front : List ℕ = take at room ++ p in
    let rest : List ℕ = drop (length p) (drop at room) in
    let long : length front ≡ n = length-append (take at room) p ∙ (rw (length-take-le at room (omega arith)) (sym e)) in
    let same : over_at at p room ≡ front ++ rest = sym (append_assoc (take at room) p rest) in
    let behind : drop (length q) rest ≡ drop (length (p ++ q)) (drop at room) = drop-drop (length q) (length p) (drop at room) ∙ rw (length-append p q) refl in
    rw (same, take_at front rest n long, drop_at front rest n long, behind)
    (append_assoc (take at room) p (q ++ drop (length (p ++ q)) (drop at room)) ∙ rw (append_assoc p q (drop (length (p ++ q)) (drop at room))) refl)

pub most_over : (p room : List ℕ) → length p ≤ length (over p room)
unfolding over
most_over p room = simp length-append (omega arith)

pub over_at_nil : (at : ℕ) (room : List ℕ) → over_at at [] room ≡ room
unfolding over_at over
over_at_nil at room = take-append-drop at room

pub writes_nothing : {at : ℕ} {room : List ℕ} → at ≤ length room → Writes [] at room at room
writes_nothing {at} {room} h = record { is = omega arith; room_is = sym (over_at_nil at room); inside = h }

pub writes_length : {p room room' : List ℕ} {at r : ℕ} → Writes p at room r room' → length room' ≡ length room
writes_length {p} {room} {room'} {at} {r} w =
    let e = w.is in let i = w.inside in ap length w.room_is ∙ length_over_at at p room (omega arith)

pub writes_then : {p q room room₁ room₂ : List ℕ} {at m r : ℕ} → Writes p at room m room₁ → Writes q m room₁ r room₂ → Writes (p ++ q) at room r room₂
writes_then {p} {q} {room} {room₁} {room₂} {at} {m} {r} w v =
    let a = w.is in
    let b = v.is in
    let i = v.inside in
    let l = writes_length w in
    record {
      is = simp length-append (omega arith);
      room_is = v.room_is ∙ (rw w.room_is (over_at_then at m p q room w.is w.inside));
      inside = omega arith;
    }

pub writes_none : {p : Page} → p.at ≤ length p.room.now → WritesOn [] p p
writes_none h = record { writes = writes_nothing h; page = record { room = refl } }

pub writes_on_then : {s t : List ℕ} {p p₁ p₂ : Page} → WritesOn s p p₁ → WritesOn t p₁ p₂ → WritesOn (s ++ t) p p₂
writes_on_then w v = record { writes = writes_then w.writes v.writes; page = record { room = v.page.room ∙ w.page.room } }

-- What fits is put, what does not is not.
pub puts_whole : {p room room' : List ℕ} {at r : ℕ} → Writes p at room r room' → Puts p at room r room'
unfolding fitting
puts_whole {p} {room} {room'} {at} {r} w =
    let e = w.is in
    let i = w.inside in
    let t = le-leb (at + length p) (length room) (omega arith) in
    record { is = simp t w.is; room_is = simp t w.room_is }

pub puts_none : {p room : List ℕ} {at : ℕ} → length room < at + length p → Puts p at room at room
unfolding fitting
puts_none {p} {room} {at} h =
    let t = lt-leb (at + length p) (length room) h in
    record { is = simp t (omega arith); room_is = simp t (sym (over_at_nil at room)) }

-- Nothing fits anywhere.
no_fitting : (at : ℕ) (room : List ℕ) (d : Bool) → leb (at + 0) (length room) ≡ d → fitting [] at room ≡ []
unfolding fitting
no_fitting at room true e = simp e
no_fitting at room false e = simp e

pub puts_nothing : {at : ℕ} {room : List ℕ} → Puts [] at room at room
puts_nothing {at} {room} = let n = no_fitting at room _ refl in record { is = rw n (omega arith); room_is = rw n (sym (over_at_nil at room)) }

pub writes_put : {p room room' : List ℕ} {at r : ℕ} → at + length p ≤ length room → Puts p at room r room' → Writes p at room r room'
unfolding fitting
writes_put {p} {room} {room'} {at} {r} h k =
    let t = le-leb (at + length p) (length room) h in
    let e : r ≡ at + length p = simp t at k.is in
    record { is = e; room_is = simp t at k.room_is; inside = omega arith }

pub writes_line : {s : List ℕ} {p p' : Page} → p.at + length s ≤ length p.room.now → PutsLine s p p' → WritesOn s p p'
writes_line h k = record { writes = writes_put h k.puts; page = k.page }

short_fitting : (p : List ℕ) (at : ℕ) (room : List ℕ) (d : Bool) → leb (at + length p) (length room) ≡ d → at ≤ length room → at + length (fitting p at room) ≤ length room
unfolding fitting
short_fitting p at room true e h = simp e (leb-true (at + length p) (length room) e)
short_fitting p at room false e h = simp e (omega arith)

pub puts_inside : {p room room' : List ℕ} {at r : ℕ} → at ≤ length room → Puts p at room r room' → r ≤ length room
puts_inside {p} {room} {at = at} h k = rw k.is (short_fitting p at room _ refl h)
