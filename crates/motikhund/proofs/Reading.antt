-- What the code reads of a control value's bytes; and a control value that was written reads as itself. Assumes nothing.
use Prim.Native.Nat.{ℕ, zero, suc, ◌+◌, ◌-◌, ◌<◌, ◌≤◌}
use mathlib.Core.Path.{◌≡◌, refl, sym, ap, ◌∙◌}
use mathlib.Core.Bool.{Bool, true, false, not}
use mathlib.Core.List.{List, [], ◌∷◌, ◌++◌, map, append_assoc}
use native.Mathlib.Omega.{arith}
use lib.Dec.{eqb}
use lib.ListN.{length, get_or, take, drop, length-append}
use lib.Seq.{take_at, drop_at, drop-drop, get_or-take, get_or-append-add}
use Rattle.std.specs.Int.{w64, from_le_bytes}
use Rattle.std.proofs.lemmas.Nat.{from_le_bytes-to_le_bytes_8}
use Rattle.words.specs.Lists.{same_bytes}
use Rattle.words.proofs.Lists.{rest_part}
use Rattle.framer.specs.declared.Framer.{Framer}
use Rattle.framer.specs.declared.Halves.{Halves}
use Rattle.hub.specs.declared.Gathering.{Gathering}
use Rattle.hub.specs.declared.Hub.{Hub}
use Rattle.sender.specs.declared.Sender.{Sender}
use Rattle.table.specs.declared.Table.{Table}
use Rattle.commands.specs.declared.Device.{Device}
use Rattle.reader.specs.declared.Reader.{Reader}
use Rattle.motikhund.proofs.Storing.{number_long, halves_long, flags_long, table_long, device_long}
use Rattle.motikhund.specs.Control.{number_in, number_bytes, Small, flag_in, flag_byte, flags_in, flag_bytes, framer_in, framer_bytes, halves_in, halves_bytes, gathering_in, gathering_bytes, hub_in, hub_bytes, sender_in, sender_bytes, table_in, table_bytes, device_in, device_bytes, reader_in, reader_bytes, SmallHalves, SmallHub, SmallSender, SizedTable, SmallReader, PartOf, NumberIn, FramerIn, HalvesIn, GatheringIn, HubIn, SenderIn, LocksIn, TableIn, DeviceIn, ReaderIn, permanent_changed, PermanentChanged}

-- ---- what the code reads

-- From a place on.
abbrev from : ℕ → List ℕ → List ℕ
from a s = take (length s - a) (drop a s)

-- A front of them is read as they are.
number_of_front : (n : ℕ) (s : List ℕ) → 8 ≤ n → number_in (take n s) ≡ number_in s
unfolding number_in
number_of_front n s h =
    rw
    (get_or-take n s 0 0 (omega arith), get_or-take n s 1 0 (omega arith), get_or-take n s 2 0 (omega arith), get_or-take n s 3 0 (omega arith), get_or-take n s 4 0 (omega arith), get_or-take n s 5 0 (omega arith), get_or-take n s 6 0 (omega arith), get_or-take n s 7 0 (omega arith))
    refl

pub number_in_lem : {s p : List ℕ} {n : ℕ} → PartOf 8 s p → n ≡ from_le_bytes w64 p → NumberIn s n
unfolding number_in
number_in_lem {s} {p} {n} k e = record { is = (e ∙ ap number_in k.is) ∙ number_of_front 8 s (omega arith) }

pub framer_in_lem : {s : List ℕ} {n : ℕ} → NumberIn s n → FramerIn s (record { count = n; deaf = flag_in s 8 })
unfolding framer_in
framer_in_lem k = record { is = rw k.is refl }

pub halves_in_lem : {s : List ℕ} {f : Framer} {n : ℕ} → FramerIn s f → NumberIn (from 10 s) n → HalvesIn s (record { framer = f; second = flag_in s 9; last = n })
unfolding halves_in
halves_in_lem {s} k l = record { is = rw (k.is, l.is, rest_part 10 s) refl }

pub gathering_in_lem : {s : List ℕ} {n : ℕ} → NumberIn (from 3 s) n →
    GatheringIn s (record { barred = flag_in s 0; begun = flag_in s 1; code = get_or s 2 0; count = n })
unfolding gathering_in
gathering_in_lem {s} k = record { is = rw (k.is, rest_part 3 s) refl }

pub hub_in_lem : {s : List ℕ} {h : Halves} {g : Gathering} → HalvesIn s h → GatheringIn (from 18 s) g → HubIn s (record { line = h; gathering = g })
unfolding hub_in
hub_in_lem {s} k l = record { is = rw (k.is, l.is, rest_part 18 s) refl }

pub sender_in_lem : {s : List ℕ} {a b c d e : ℕ} → NumberIn (from 4 s) a → NumberIn (from 12 s) b → NumberIn (from 20 s) c → NumberIn (from 28 s) d → NumberIn (from 36 s) e →
    SenderIn s
    (record { out = flag_in s 0; code = get_or s 1 0; length = a; at = b; size = c; resends = d; copies = e; failed = flag_in s 2; delivered = flag_in s 3 })
unfolding sender_in
sender_in_lem {s} p q r t u =
    record {
      is =
          rw
          (p.is, q.is, r.is, t.is, u.is, rest_part 4 s, rest_part 12 s, rest_part 20 s, rest_part 28 s, rest_part 36 s)
          refl;
    }

pub locks_in_lem : {s p : List ℕ} {r : List Bool} → PartOf 9 s p → r ≡ flags_in p → LocksIn s r
locks_in_lem k e = record { is = e ∙ ap flags_in k.is }

pub table_in_lem : {s a b : List ℕ} {c : List Bool} → PartOf 9 s a → PartOf 9 (from 9 s) b → LocksIn (from 18 s) c → TableIn s (record { present = a; permanent = b; locked = c })
unfolding table_in
table_in_lem {s} k l m = record { is = rw (k.is, l.is, m.is, rest_part 9 s, rest_part 18 s) refl }

pub device_in_lem : {s : List ℕ} {t : Table} → TableIn s t →
    DeviceIn s (record { table = t; switches = record { scanning = flag_in s 27; session = flag_in s 28; aim = flag_in s 29; led = flag_in s 30 } })
unfolding device_in
device_in_lem k = record { is = rw k.is refl }

pub reader_in_lem : {s : List ℕ} {h : Halves} {n : ℕ} {d : Device} {t : Sender} → HalvesIn s h → NumberIn (from 18 s) n → DeviceIn (from 26 s) d → SenderIn (from 57 s) t →
    ReaderIn s (record { line = h; last_answer = n; device = d; sender = t })
unfolding reader_in
reader_in_lem {s} p q r t = record { is = rw (p.is, q.is, r.is, t.is, rest_part 18 s, rest_part 26 s, rest_part 57 s) refl }

-- A list whose elements are those of another one, each through the same function.
pub mapped : {A B : Type 0} (f : A → B) (d : A) (e : B) (n : ℕ) (xs : List A) (ys : List B) → length xs ≡ n → length ys ≡ n →
    ((i : ℕ) → i < n → get_or ys i e ≡ f (get_or xs i d)) → ys ≡ map f xs
mapped f d e n [] [] h l k = refl
mapped f d e n [] (y ∷ ys) h l k = absurd (omega arith)
mapped f d e n (x ∷ xs) [] h l k = absurd (omega arith)
mapped f d e zero (x ∷ xs) (y ∷ ys) h l k = absurd (omega arith)
mapped f d e (suc n) (x ∷ xs) (y ∷ ys) h l k =
    let first = k 0 (omega arith) in
    let rest = mapped f d e n xs ys (omega arith) (omega arith) (λ i q. k (suc i) (omega arith)) in
    cc

-- ---- what was written reads as itself

pub number_back : (n : ℕ) (rest : List ℕ) → Small n → number_in (number_bytes n ++ rest) ≡ n
unfolding number_in number_bytes
number_back n rest h = from_le_bytes-to_le_bytes_8 n h

flag_back : (b : Bool) → eqb (flag_byte b) 1 ≡ b
flag_back true = refl
flag_back false = refl

pub framer_back : (f : Framer) (rest : List ℕ) → Small f.count → framer_in (framer_bytes f ++ rest) ≡ f
unfolding number_bytes framer_in framer_bytes
framer_back f rest h = rw (number_back f.count (flag_byte f.deaf ∷ rest) h, flag_back f.deaf) refl

pub halves_back : (h : Halves) (rest : List ℕ) → SmallHalves h → halves_in (halves_bytes h ++ rest) ≡ h
unfolding number_bytes framer_bytes halves_in halves_bytes
halves_back h rest k =
    rw (framer_back h.framer (flag_byte h.second ∷ (number_bytes h.last ++ rest)) k.count, flag_back h.second, number_back h.last rest k.last) refl

gathering_back : (g : Gathering) (rest : List ℕ) → Small g.count → gathering_in (gathering_bytes g ++ rest) ≡ g
unfolding number_bytes gathering_in gathering_bytes
gathering_back g rest k = rw (flag_back g.barred, flag_back g.begun, number_back g.count rest k) refl

pub hub_back : (h : Hub) (rest : List ℕ) → SmallHub h → hub_in (hub_bytes h ++ rest) ≡ h
unfolding number_bytes framer_bytes halves_bytes gathering_bytes hub_in hub_bytes
hub_back h rest k =
    rw (halves_back h.line (gathering_bytes h.gathering ++ rest) k.line, gathering_back h.gathering rest k.count) refl

pub sender_back : (s : Sender) (rest : List ℕ) → SmallSender s → sender_in (sender_bytes s ++ rest) ≡ s
unfolding number_bytes sender_in sender_bytes
sender_back s rest k =
    let e = number_bytes s.copies ++ rest in
    let d = number_bytes s.resends ++ e in
    let c = number_bytes s.size ++ d in
    let b = number_bytes s.at ++ c in
    rw
    (flag_back s.out, flag_back s.failed, flag_back s.delivered, number_back s.length b k.length, number_back s.at c k.at, number_back s.size d k.size, number_back s.resends e k.resends, number_back s.copies rest k.copies)
    refl

pub flags_back : (bs : List Bool) → flags_in (flag_bytes bs) ≡ bs
flags_back [] = refl
flags_back (b ∷ bs) = rw (flag_back b, flags_back bs) refl

table_back : (t : Table) (rest : List ℕ) → SizedTable t → table_in (table_bytes t ++ rest) ≡ t
unfolding table_in table_bytes
table_back t rest k =
    let f = flag_bytes t.locked in
    let two : length (t.present ++ t.permanent) ≡ 18 = length-append t.present t.permanent ∙ omega (arith, k.present, k.permanent) in
    let behind-two : drop 18 (t.present ++ (t.permanent ++ (f ++ rest))) ≡ f ++ rest =
    rw (← append_assoc t.present t.permanent (f ++ rest)) (drop_at (t.present ++ t.permanent) (f ++ rest) 18 two) in
    let all : (t.present ++ (t.permanent ++ f)) ++ rest ≡ t.present ++ (t.permanent ++ (f ++ rest)) = simp append_assoc in
    rw all
    (rw
    (take_at t.present (t.permanent ++ (f ++ rest)) 9 k.present, drop_at t.present (t.permanent ++ (f ++ rest)) 9 k.present, take_at t.permanent (f ++ rest) 9 k.permanent, behind-two, take_at f rest 9 (flags_long t.locked ∙ k.locked), flags_back t.locked)
    refl)

-- Behind a front of n bytes.
pub past : (n i : ℕ) (p q : List ℕ) → length p ≡ n → get_or (p ++ q) (n + i) 0 ≡ get_or q i 0
past n i p q e = rw (← e) (get_or-append-add p q i 0)

device_back : (d : Device) (rest : List ℕ) → SizedTable d.table → device_in (device_bytes d ++ rest) ≡ d
unfolding device_in device_bytes
device_back d rest k =
    let t = table_bytes d.table in
    let f = flag_byte d.switches.scanning ∷ flag_byte d.switches.session ∷ flag_byte d.switches.aim ∷ flag_byte d.switches.led ∷ [] in
    let long = table_long d.table k in
    rw (append_assoc t f rest)
    (rw
    (table_back d.table (f ++ rest) k, past 27 0 t (f ++ rest) long, past 27 1 t (f ++ rest) long, past 27 2 t (f ++ rest) long, past 27 3 t (f ++ rest) long)
    (rw (flag_back d.switches.scanning, flag_back d.switches.session, flag_back d.switches.aim, flag_back d.switches.led) refl))

pub reader_back : (r : Reader) (rest : List ℕ) → SmallReader r → reader_in (reader_bytes r ++ rest) ≡ r
unfolding reader_in reader_bytes
reader_back r rest k =
    let h = halves_bytes r.line in
    let n = number_bytes r.last_answer in
    let d = device_bytes r.device in
    let s = sender_bytes r.sender in
    let hn : length (h ++ n) ≡ 26 = length-append h n ∙ omega (arith, halves_long r.line, number_long r.last_answer) in
    let hnd : length ((h ++ n) ++ d) ≡ 57 = length-append (h ++ n) d ∙ omega (arith, device_long r.device k.table) in
    let a : (h ++ (n ++ (d ++ s))) ++ rest ≡ h ++ (n ++ (d ++ (s ++ rest))) = simp append_assoc in
    let b : drop 18 (h ++ (n ++ (d ++ (s ++ rest)))) ≡ n ++ (d ++ (s ++ rest)) = drop_at h (n ++ (d ++ (s ++ rest))) 18 (halves_long r.line) in
    let c : drop 26 (h ++ (n ++ (d ++ (s ++ rest)))) ≡ d ++ (s ++ rest) = rw (← append_assoc h n (d ++ (s ++ rest))) (drop_at (h ++ n) (d ++ (s ++ rest)) 26 hn) in
    let e : drop 57 (h ++ (n ++ (d ++ (s ++ rest)))) ≡ s ++ rest =
    rw (← append_assoc h n (d ++ (s ++ rest)), ← append_assoc (h ++ n) d (s ++ rest)) (drop_at ((h ++ n) ++ d) (s ++ rest) 57 hnd) in
    rw a
    (rw
    (halves_back r.line (n ++ (d ++ (s ++ rest))) k.line, b, c, e, number_back r.last_answer (d ++ (s ++ rest)) k.last_answer, device_back r.device (s ++ rest) k.table, sender_back r.sender rest k.sender)
    refl)

-- ---- whether a permanent value changed

permanent_in : (s : List ℕ) → (reader_in s).device.table.permanent ≡ take 9 (drop 35 s)
unfolding reader_in device_in table_in
permanent_in s = rw (drop-drop 9 26 s) refl

pub permanent_changed_lem : {s p : List ℕ} {after : Reader} {r : Bool} → PartOf 9 (from 35 s) p → r ≡ not (same_bytes p after.device.table.permanent) → PermanentChanged s after r
unfolding permanent_changed
permanent_changed_lem {s} {p} {after} k e =
    let same : p ≡ (reader_in s).device.table.permanent = k.is ∙ (rw (rest_part 35 s) refl ∙ sym (permanent_in s)) in
    record { is = e ∙ ap (λ (q : List ℕ). not (same_bytes q after.device.table.permanent)) same }
