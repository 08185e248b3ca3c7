-- The theorems over the packet's definitions: what is sealed is found again whatever follows, and what is found has exactly that layout.
-- Assumes nothing.
use Prim.Native.Nat.{ℕ, suc, ◌+◌, ◌-◌, ◌/◌, ◌%◌, ◌≤◌, ◌<◌}
use mathlib.Core.Path.{◌≡◌, refl, sym, ap, ◌∙◌}
use mathlib.Core.Bool.{Bool, true, false}
use mathlib.Core.List.{List, [], ◌∷◌, ◌++◌, append_assoc}
use native.Mathlib.Numerals.{add-one}
use native.Mathlib.Omega.{arith}
use native.Mathlib.Decide.{dec_le}
use lib.Dec.{eqb, ltb}
use lib.ListN.{length, get_or, take, drop, length-append, length-take, length-drop, get_or-append, take-append-drop}
use lib.Seq.{take_at, take-append_seam, take-append-le, take-append-add, get_or-append-add, drop-cons, take-length, length-take-le, get_or-take}
use borrow.Author.Tests.{ltb-true, ltb-false, eqb-true, lt-ltb, le-ltb, eq-eqb, ne_eqb}
use Rattle.words.specs.Lists.{pick, Bytes}
use Rattle.words.proofs.Lists.{bytes_cons, bytes_take, never}
use Rattle.packet.specs.Packet.{body_of, sum_of, checksum_of, seal, body_in, data_in, head_in, checksum_in, check_of}
use Rattle.packet.specs.Promises.{Check}
use Rattle.packet.specs.Refusals.{number_of, cause_of}
use Rattle.packet.specs.declared.Refusal.{Refusal}
use Rattle.packet.specs.declared.Refusal.TheVariants.{Length, Checksum, Cut, Source, Status, Opcode, Data, Beep, Setting, Barred, Start, Form, Room, Long}
use Rattle.packet.specs.declared.Head.{Head}
use Rattle.std.specs.Prelude.{Ok, Err}
use Rattle.packet.proofs.Judge.{check_right}
use Rattle.packet.proofs.Sums.{sum_most}
use Rattle.packet.proofs.Writing.{length_seal, length_body}

-- ---- bodies

-- A body: its first byte is its length, 4 to 255, and all are bytes.
pub record Body (b : List ℕ) : Type 0 where
  pub long : get_or b 0 0 ≡ length b
  pub least : 4 ≤ length b
  pub most : length b ≤ 255
  pub bytes : Bytes b

pub body_of_lem : (o s t : ℕ) (d : List ℕ) → o < 256 → s < 256 → t < 256 → Bytes d → length d ≤ 251 → Body (body_of o s t d)
unfolding body_of
body_of_lem o s t d ho hs ht hd h =
    record { long = omega arith; least = omega arith; most = omega arith; bytes = bytes_cons (omega arith) (bytes_cons ho (bytes_cons hs (bytes_cons ht hd))) }

-- The sum never passes 65,025, and sum plus checksum is exactly 65,536.
pub sum_limit : {b : List ℕ} → Body b → sum_of b ≤ 65025
sum_limit {b} k = let m = sum_most b k.bytes in let l = k.most in omega arith

pub sum_and_checksum : {b : List ℕ} → Body b → sum_of b + checksum_of b ≡ 65536
unfolding checksum_of
sum_and_checksum {b} k = let m = sum_limit k in omega arith

-- ---- what is sealed is found again

module _ (b rest : List ℕ) (k : Body b) where
  front : (i : ℕ) → i < length b → get_or (seal b ++ rest) i 0 ≡ get_or b i 0
  unfolding seal
  front i h = rw append_assoc (get_or-append b _ 0 i h)

  behind : (i : ℕ) → get_or (seal b ++ rest) (length b + i) 0 ≡ get_or (checksum_of b / 256 % 256 ∷ checksum_of b % 256 ∷ rest) i 0
  unfolding seal
  behind i = rw append_assoc (get_or-append-add b _ i 0)

  front_part : take (length b) (seal b ++ rest) ≡ b
  unfolding seal
  front_part = rw append_assoc (take-append_seam b _)

  high_byte : get_or (seal b ++ rest) (length b) 0 ≡ checksum_of b / 256 % 256
  high_byte = let e : length b ≡ length b + 0 = omega arith in rw e (behind 0)

  pub sealed_check : Check (seal b ++ rest) (Ok (head_in b))
  unfolding head_in checksum_of
  sealed_check =
      let low = k.least in
      let high = k.most in
      let limit = sum_limit k in
      let long : length (seal b ++ rest) ≡ length b + 2 + length rest = length-append (seal b) rest ∙ rw (length_seal b) refl in
      let first : get_or (seal b ++ rest) 0 0 ≡ length b = front 0 (omega arith) ∙ k.long in
      rw (k.long, ← front 1 (omega arith), ← front 2 (omega arith), ← front 3 (omega arith))
      (check_right {s = seal b ++ rest} {n = length b}
      (sym first)
      (omega arith)
      (omega arith)
      (record { is = ap (λ (l : List ℕ). checksum_of l % 65536) (sym front_part) })
      (let high = high_byte in let low = behind 1 in omega arith))

  pub sealed_body : body_in (seal b ++ rest) ≡ b
  unfolding body_in
  sealed_body = let low = k.least in rw (front 0 (omega arith) ∙ k.long) front_part

-- What building writes the check accepts, with the same opcode, source, status and data, whatever bytes follow.
pub built_found : (o s t : ℕ) (d rest : List ℕ) → Body (body_of o s t d) →
    check_of (seal (body_of o s t d) ++ rest) ≡ Ok (record { length = length d + 4; opcode = o; source = s; status = t })
unfolding body_of head_in
built_found o s t d rest k = sym (sealed_check (body_of o s t d) rest k).is

-- The data of a body is what it was made with.
pub data_of : (o s t : ℕ) (d : List ℕ) → data_in (body_of o s t d) ≡ d
unfolding data_in body_of
data_of o s t d = let e : length d + 4 - 4 ≡ length d = omega arith in rw e (take-length d)

pub built_data : (o s t : ℕ) (d rest : List ℕ) → data_in (seal (body_of o s t d) ++ rest) ≡ d
unfolding data_in seal body_of
built_data o s t d rest =
    let sum : List ℕ = checksum_of (body_of o s t d) / 256 % 256 ∷ checksum_of (body_of o s t d) % 256 ∷ rest in
    let e : length d + 4 - 4 ≡ length d = omega arith in
    ap (λ (l : List ℕ). take (length d + 4 - 4) l) (append_assoc d (checksum_of (body_of o s t d) / 256 % 256 ∷ checksum_of (body_of o s t d) % 256 ∷ []) rest) ∙ rw e (take-append_seam d sum)

-- ---- what the check accepts

-- The front of these bytes is a packet with this head.
pub record Accepted (s : List ℕ) (h : Head) : Type 0 where
  pub head : h ≡ head_in s
  pub least : 4 ≤ get_or s 0 0
  pub enough : get_or s 0 0 + 2 ≤ length s
  pub sums : checksum_in s ≡ checksum_of (body_in s)

accepted_by : (s : List ℕ) (h : Head) (a b d e : Bool) → ltb (get_or s 0 0) 4 ≡ b → ltb (length s) (get_or s 0 0 + 2) ≡ d → eqb (checksum_in s) (checksum_of (body_in s)) ≡ e →
    pick a (Err Cut) (pick b (Err Length) (pick d (Err Cut) (pick e (Ok (head_in s)) (Err Checksum)))) ≡ Ok h → Accepted s h
accepted_by s h false false false true p q r f =
    record { head = cc; least = ltb-false (get_or s 0 0) 4 p; enough = ltb-false (length s) (get_or s 0 0 + 2) q; sums = eqb-true (checksum_in s) (checksum_of (body_in s)) r }
accepted_by s h false false false false p q r f = never (cc)
accepted_by s h false false true e p q r f = never (cc)
accepted_by s h false true d e p q r f = never (cc)
accepted_by s h true b d e p q r f = never (cc)

pub accepted : (s : List ℕ) {h : Head} → check_of s ≡ Ok h → Accepted s h
unfolding check_of
accepted s {h} f = accepted_by s h (eqb (length s) 0) (ltb (get_or s 0 0) 4) (ltb (length s) (get_or s 0 0 + 2)) (eqb (checksum_in s) (checksum_of (body_in s))) refl refl refl f

-- The body that stands there is made of its fields.
body_fields : (s : List ℕ) → 4 ≤ get_or s 0 0 → get_or s 0 0 ≤ length s → body_in s ≡ body_of (get_or s 1 0) (get_or s 2 0) (get_or s 3 0) (data_in s)
unfolding body_in body_of data_in
body_fields [] h l = absurd (omega arith)
body_fields (a ∷ []) h l = absurd (omega arith)
body_fields (a ∷ b ∷ []) h l = absurd (omega arith)
body_fields (a ∷ b ∷ c ∷ []) h l = absurd (omega arith)
body_fields (a ∷ b ∷ c ∷ d ∷ r) h l =
    let e : a ≡ 4 + (a - 4) = omega arith in
    let n : length (take (a - 4) r) + 4 ≡ a = rw (length-take-le (a - 4) r (omega arith)) (omega arith) in
    ap (λ (k : ℕ). take k (a ∷ b ∷ c ∷ d ∷ r)) e
    ∙ (take-append-add (a ∷ b ∷ c ∷ d ∷ []) r (a - 4) ∙ ap (λ (k : ℕ). k ∷ b ∷ c ∷ d ∷ take (a - 4) r) (sym n))

-- A list is its front, two bytes, and the rest.
two_behind : (s : List ℕ) (n : ℕ) → n + 2 ≤ length s → take n s ++ (get_or s n 0 ∷ get_or s (n + 1) 0 ∷ drop (n + 2) s) ≡ s
two_behind s n h =
    let e : n + 2 ≡ suc (suc n) = omega arith in
    rw (e, add-one n, ← drop-cons s (suc n) 0 (omega arith), ← drop-cons s n 0 (omega arith)) (take-append-drop n s)

-- Body, checksum and rest, put together again.
whole : (s : List ℕ) → Bytes s → 4 ≤ get_or s 0 0 → get_or s 0 0 + 2 ≤ length s → checksum_in s ≡ checksum_of (body_in s) →
    s ≡ seal (body_of (get_or s 1 0) (get_or s 2 0) (get_or s 3 0) (data_in s)) ++ drop (get_or s 0 0 + 2) s
unfolding seal checksum_in body_in
whole s bytes least enough sums =
    let n = get_or s 0 0 in
    let high = get_or s n 0 in
    let low = get_or s (n + 1) 0 in
    let body : List ℕ = take n s in
    let fields = body_fields s least (omega arith) in
    let hb = bytes.each n in
    let lb = bytes.each (n + 1) in
    let high_is : high ≡ checksum_of body / 256 % 256 = omega arith in
    let low-is : low ≡ checksum_of body % 256 = omega arith in
    sym (
    rw (← fields)
    (append_assoc body (checksum_of body / 256 % 256 ∷ checksum_of body % 256 ∷ []) (drop (n + 2) s)
    ∙ (rw (← high_is, ← low-is) (two_behind s n enough)))
    )

module _ {s : List ℕ} {h : Head} (k : Accepted s h) where
  -- The body alone has the same head.
  pub accepted_head : head_in (body_in s) ≡ h
  unfolding head_in body_in
  accepted_head =
      let n = get_or s 0 0 in
      let least = k.least in
      rw (k.head, get_or-take n s 0 0 (omega arith), get_or-take n s 1 0 (omega arith), get_or-take n s 2 0 (omega arith), get_or-take n s 3 0 (omega arith)) refl

  -- So many bytes of data.
  pub accepted_data : length (data_in s) + 4 ≡ h.length
  unfolding head_in data_in
  accepted_data = let least = k.least in let enough = k.enough in rw k.head (simp (length-take, length-drop) (omega arith))

module _ {s : List ℕ} {h : Head} (bytes : Bytes s) (k : Accepted s h) where
  pub accepted_body : Body (body_in s)
  unfolding body_in
  accepted_body =
      let n = get_or s 0 0 in
      let least = k.least in
      let enough = k.enough in
      let first = bytes.each 0 in
      let long : length (take n s) ≡ n = length-take-le n s (omega arith) in
      record {
        long = get_or-take n s 0 0 (omega arith) ∙ sym long;
        least = omega arith;
        most = omega arith;
        bytes = bytes_take n bytes;
      }

  -- Exactly the packet's layout, and then whatever follows.
  pub accepted_layout : s ≡ seal (body_of h.opcode h.source h.status (data_in s)) ++ drop (h.length + 2) s
  unfolding head_in
  accepted_layout = rw k.head (whole s bytes k.least k.enough k.sums)

  -- The packet's own bytes: what building would write from its fields.
  pub accepted_front : take (h.length + 2) s ≡ seal (body_of h.opcode h.source h.status (data_in s))
  accepted_front =
      let packet : List ℕ = seal (body_of h.opcode h.source h.status (data_in s)) in
      let size = accepted_data k in
      let long : length packet ≡ h.length + 2 =
      length_seal (body_of h.opcode h.source h.status (data_in s)) ∙ rw (length_body h.opcode h.source h.status (data_in s)) (omega arith) in
      ap (take (h.length + 2)) accepted_layout ∙ take_at packet (drop (h.length + 2) s) (h.length + 2) long

-- Two packets with the same fields are the same bytes.
pub same_fields : (s t : List ℕ) {h : Head} → Bytes s → Bytes t → check_of s ≡ Ok h → check_of t ≡ Ok h → data_in s ≡ data_in t →
    take (h.length + 2) s ≡ take (h.length + 2) t
same_fields s t {h} a b p q e =
    accepted_front a (accepted s p) ∙ (ap (λ (d : List ℕ). seal (body_of h.opcode h.source h.status d)) e ∙ sym (accepted_front b (accepted t q)))

-- ---- later bytes are not read

module _ (s rest : List ℕ) (least : 4 ≤ get_or s 0 0) (enough : get_or s 0 0 + 2 ≤ length s) where
  at_front : (i : ℕ) → i < length s → get_or (s ++ rest) i 0 ≡ get_or s i 0
  at_front i h = get_or-append s rest 0 i h

  first : get_or (s ++ rest) 0 0 ≡ get_or s 0 0
  first = at_front 0 (omega arith)

  head_front : head_in (s ++ rest) ≡ head_in s
  unfolding head_in
  head_front = rw (first, at_front 1 (omega arith), at_front 2 (omega arith), at_front 3 (omega arith)) refl

  body_front : body_in (s ++ rest) ≡ body_in s
  unfolding body_in
  body_front = rw first (take-append-le (get_or s 0 0) s rest (omega arith))

  checksum_front : checksum_in (s ++ rest) ≡ checksum_in s
  unfolding checksum_in
  checksum_front = rw (first, at_front (get_or s 0 0) (omega arith), at_front (get_or s 0 0 + 1) (omega arith)) refl

  whole_front : check_of (s ++ rest) ≡ check_of s
  unfolding check_of
  whole_front =
      let long = length-append s rest in
      simp (
        ne_eqb (length (s ++ rest)) 0 (λ z. omega arith),
        ne_eqb (length s) 0 (λ z. omega arith),
        first,
        le-ltb (get_or s 0 0) 4 least,
        le-ltb (length (s ++ rest)) (get_or s 0 0 + 2) (omega arith),
        le-ltb (length s) (get_or s 0 0 + 2) enough,
        head_front,
        body_front,
        checksum_front,
      )

-- A first byte below 4 is enough to refuse.
low_first : (s : List ℕ) → (length s ≡ 0 → ⊥) → get_or s 0 0 < 4 → check_of s ≡ Err Length
unfolding check_of
low_first s some h = simp (ne_eqb (length s) 0 some, lt-ltb (get_or s 0 0) 4 h)

none_cut : (s : List ℕ) → length s ≡ 0 → check_of s ≡ Err Cut
unfolding check_of
none_cut s e = simp (eq-eqb (length s) 0 e)

pub some_first : (s : List ℕ) → 4 ≤ get_or s 0 0 → length s ≡ 0 → ⊥
some_first [] h e = omega arith
some_first (x ∷ xs) h e = omega arith

pub few_cut : (s : List ℕ) → 4 ≤ get_or s 0 0 → length s < get_or s 0 0 + 2 → check_of s ≡ Err Cut
unfolding check_of
few_cut s least h = simp (ne_eqb (length s) 0 (some_first s least), le-ltb (get_or s 0 0) 4 least, lt-ltb (length s) (get_or s 0 0 + 2) h)

-- What is not too short is judged the same with any bytes behind it.
pub check_front : (s rest : List ℕ) → (check_of s ≡ Err Cut → ⊥) → check_of (s ++ rest) ≡ check_of s
check_front s rest h = by (dec_le 4 (get_or s 0 0)) (dec_le (get_or s 0 0 + 2) (length s))
  where
    by : Dec (4 ≤ get_or s 0 0) → Dec (get_or s 0 0 + 2 ≤ length s) → check_of (s ++ rest) ≡ check_of s
    by (yes l) (yes m) = whole_front s rest l m
    by (yes l) (no m) = absurd (h (few_cut s l (omega arith)))
    by (no l) m =
        let some : length s ≡ 0 → ⊥ = λ e. h (none_cut s e) in
        let long = length-append s rest in
        let same : get_or (s ++ rest) 0 0 ≡ get_or s 0 0 = get_or-append s rest 0 0 (omega arith) in
        low_first (s ++ rest) (λ e. some (omega arith)) (rw same (omega arith)) ∙ sym (low_first s some (omega arith))

-- ---- what the check refuses

-- It refuses by 1, 2 or 3, whose cause is 1, and by number 3 only where bytes are missing.
pub record Turned (s : List ℕ) (x : Refusal) : Type 0 where
  pub cause : cause_of x ≡ 1
  pub cut : number_of x ≡ 3 → length s < get_or s 0 0 + 2

turned_by : (s : List ℕ) (x : Refusal) (a b d e : Bool) → eqb (length s) 0 ≡ a → ltb (length s) (get_or s 0 0 + 2) ≡ d →
    pick a (Err Cut) (pick b (Err Length) (pick d (Err Cut) (pick e (Ok (head_in s)) (Err Checksum)))) ≡ Err x → Turned s x
turned_by s x true b d e p q f = let z : Cut ≡ x = cc in rw (← z) (record { cause = refl; cut = λ n. let y = eqb-true (length s) 0 p in omega arith })
turned_by s x false true d e p q f = let z : Length ≡ x = cc in rw (← z) (record { cause = refl; cut = λ n. omega arith })
turned_by s x false false true e p q f = let z : Cut ≡ x = cc in rw (← z) (record { cause = refl; cut = λ n. ltb-true (length s) (get_or s 0 0 + 2) q })
turned_by s x false false false true p q f = never (cc)
turned_by s x false false false false p q f = let z : Checksum ≡ x = cc in rw (← z) (record { cause = refl; cut = λ n. omega arith })

pub turned : (s : List ℕ) {x : Refusal} → check_of s ≡ Err x → Turned s x
unfolding check_of
turned s {x} f = turned_by s x (eqb (length s) 0) (ltb (get_or s 0 0) 4) (ltb (length s) (get_or s 0 0 + 2)) (eqb (checksum_in s) (checksum_of (body_in s))) refl refl f

-- ---- what is answered

-- Of the refusals that a packet or an event can have, only number 13 goes unanswered.
pub answered_number : (x : Refusal) → (cause_of x ≡ 0 → ⊥) → eqb (number_of x) 13 ≡ false
answered_number Length n = refl
answered_number Checksum n = refl
answered_number Cut n = refl
answered_number Source n = refl
answered_number Status n = refl
answered_number Opcode n = refl
answered_number Data n = refl
answered_number Beep n = refl
answered_number Setting n = refl
answered_number Barred n = refl
answered_number Start n = refl
answered_number Form n = refl
answered_number Room n = absurd (n refl)
answered_number Long n = refl
