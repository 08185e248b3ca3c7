-- What the stores of a control value leave: each part behind the one before it. Assumes nothing.
use Prim.Native.Nat.{ℕ, zero, suc, ◌-◌, ◌<◌, ◌≤◌}
use mathlib.Core.Path.{◌≡◌, refl, ap, ◌∙◌}
use mathlib.Core.Bool.{Bool, false}
use mathlib.Core.List.{List, [], ◌∷◌, ◌++◌, append_assoc}
use native.Mathlib.Omega.{arith}
use lib.ListN.{length, get_or, take, drop, set, length-append}
use Rattle.std.specs.Int.{w64, to_le_bytes}
use Rattle.words.specs.Lists.{over, Over}
use Rattle.words.proofs.Lists.{back, behind, length_over, over_behind, set_over_at}
use Rattle.framer.specs.declared.Framer.{Framer}
use Rattle.framer.specs.declared.Halves.{Halves}
use Rattle.hub.specs.declared.Gathering.{Gathering}
use Rattle.hub.specs.declared.Hub.{Hub}
use Rattle.sender.specs.declared.Sender.{Sender}
use Rattle.table.specs.declared.Table.{Table}
use Rattle.commands.specs.declared.Device.{Device}
use Rattle.reader.specs.declared.Reader.{Reader}
use Rattle.motikhund.specs.Control.{sender_control_size, reader_control_size, number_bytes, Small, flag_byte, flag_bytes, framer_bytes, halves_bytes, gathering_bytes, hub_bytes, sender_bytes, table_bytes, device_bytes, reader_bytes, SizedTable, PutsNumber, PutsFramer, PutsHalves, PutsGathering, PutsHub, PutsSender, LockBytes, PutsTable, PutsDevice, PutsReader}

-- ---- a part behind the one before it

-- One store behind what stands at the front.
set_behind : (a x : ℕ) (p room room₁ : List ℕ) → length p ≡ a → a < length room → room₁ ≡ over p room → set room₁ a x ≡ over (p ++ (x ∷ [])) room
set_behind a x p room room₁ e h k =
    let long : length room₁ ≡ length room = ap length k ∙ length_over p room (omega arith) in
    set_over_at room₁ a x (omega arith) ∙ rw k (over_behind a p (x ∷ []) room e)

pub number_long : (n : ℕ) → length (number_bytes n) ≡ 8
unfolding number_bytes
number_long n = refl

pub framer_long : (f : Framer) → length (framer_bytes f) ≡ 9
unfolding number_bytes framer_bytes
framer_long f = refl

pub halves_long : (h : Halves) → length (halves_bytes h) ≡ 18
unfolding number_bytes framer_bytes halves_bytes
halves_long h = refl

gathering_long : (g : Gathering) → length (gathering_bytes g) ≡ 11
unfolding number_bytes gathering_bytes
gathering_long g = refl

pub number_put : {n : ℕ} {s room room' : List ℕ} → Small n → s ≡ to_le_bytes w64 n → Over s room room' → PutsNumber n room room'
unfolding number_bytes
number_put {room = room} small e k = record { is = k.is ∙ ap (λ (p : List ℕ). over p room) e; small = small }

pub framer_put : {f : Framer} {x : ℕ} {room room₁ : List ℕ} → 9 ≤ length room → PutsNumber f.count room room₁ → x ≡ flag_byte f.deaf → PutsFramer f room (set room₁ 8 x)
unfolding framer_bytes
framer_put {f} {x} {room} {room₁} h count deaf =
    record {
      is = set_behind 8 x (number_bytes f.count) room room₁ (number_long f.count) (omega arith) count.is ∙ rw deaf refl;
      small = count.small;
    }

pub halves_put : {h : Halves} {x : ℕ} {room room₁ room₂ part : List ℕ} → 18 ≤ length room → PutsFramer h.framer room room₁ →
    x ≡ flag_byte h.second → room₂ ≡ set room₁ 9 x →
    PutsNumber h.last (take (length room₂ - 10) (drop 10 room₂)) part → PutsHalves h room (back 10 part room₂)
unfolding halves_bytes
halves_put {h} {x} {room} {room₁} {room₂} {part} l framer second e last =
    let f = framer_bytes h.framer in
    let n = number_bytes h.last in
    let long : length (f ++ (x ∷ [])) ≡ 10 = length-append f (x ∷ []) ∙ omega (arith, framer_long h.framer) in
    record {
      is =
          behind 10 (f ++ (x ∷ [])) n room room₂ part long (omega (arith, number_long h.last))
          (e ∙ set_behind 9 x f room room₁ (framer_long h.framer) (omega arith) framer.is)
          last.is
          ∙ rw (append_assoc, second) refl;
      small = record { count = framer.small; last = last.small };
    }

pub gathering_put : {g : Gathering} {a b : ℕ} {room room₁ part : List ℕ} → 11 ≤ length room → a ≡ flag_byte g.barred → b ≡ flag_byte g.begun →
    Over (a ∷ b ∷ g.code ∷ []) room room₁ → PutsNumber g.count (take (length room₁ - 3) (drop 3 room₁)) part → PutsGathering g room (back 3 part room₁)
unfolding gathering_bytes
gathering_put {g} {a} {b} {room} {room₁} {part} l barred begun flags count =
    record {
      is =
          behind 3 (a ∷ b ∷ g.code ∷ []) (number_bytes g.count) room room₁ part refl (omega (arith, number_long g.count)) flags.is count.is
          ∙ rw (barred, begun) refl;
      small = count.small;
    }

pub hub_put : {h : Hub} {room room₁ part : List ℕ} → 29 ≤ length room → PutsHalves h.line room room₁ →
    PutsGathering h.gathering (take (length room₁ - 18) (drop 18 room₁)) part → PutsHub h room (back 18 part room₁)
unfolding hub_bytes
hub_put {h} {room} {room₁} {part} l line gathering =
    record {
      is =
          behind 18 (halves_bytes h.line) (gathering_bytes h.gathering) room room₁ part (halves_long h.line)
          (omega (arith, gathering_long h.gathering))
          line.is
          gathering.is;
      small = record { line = line.small; count = gathering.small };
    }

pub sender_put : {s : Sender} {a b c : ℕ} {room room₁ room₂ room₃ room₄ room₅ part part₂ part₃ part₄ part₅ : List ℕ} → sender_control_size ≤ length room →
    a ≡ flag_byte s.out →
    b ≡ flag_byte s.failed →
    c ≡ flag_byte s.delivered →
    Over (a ∷ s.code ∷ b ∷ c ∷ []) room room₁ →
    PutsNumber s.length (take (length room₁ - 4) (drop 4 room₁)) part →
    room₂ ≡ back 4 part room₁ →
    PutsNumber s.at (take (length room₂ - 12) (drop 12 room₂)) part₂ →
    room₃ ≡ back 12 part₂ room₂ →
    PutsNumber s.size (take (length room₃ - 20) (drop 20 room₃)) part₃ →
    room₄ ≡ back 20 part₃ room₃ →
    PutsNumber s.resends (take (length room₄ - 28) (drop 28 room₄)) part₄ →
    room₅ ≡ back 28 part₄ room₄ →
    PutsNumber s.copies (take (length room₅ - 36) (drop 36 room₅)) part₅ →
    PutsSender s room (back 36 part₅ room₅)
unfolding sender_bytes
sender_put {s} {a} {b} {c} {room} {room₁} {room₂} {room₃} {room₄} {room₅} {part} {part₂} {part₃} {part₄} {part₅} h out failed delivered flags first e₂ second e₃ third e₄ fourth e₅ fifth =
    let f = a ∷ s.code ∷ b ∷ c ∷ [] in
    let l = number_bytes s.length in
    let p = number_bytes s.at in
    let q = number_bytes s.size in
    let r = number_bytes s.resends in
    let n = number_bytes s.copies in
    let fl : length (f ++ l) ≡ 12 = length-append f l ∙ omega (arith, number_long s.length) in
    let flp : length ((f ++ l) ++ p) ≡ 20 = length-append (f ++ l) p ∙ omega (arith, number_long s.at) in
    let flpq : length (((f ++ l) ++ p) ++ q) ≡ 28 = length-append ((f ++ l) ++ p) q ∙ omega (arith, number_long s.size) in
    let flpqr : length ((((f ++ l) ++ p) ++ q) ++ r) ≡ 36 = length-append (((f ++ l) ++ p) ++ q) r ∙ omega (arith, number_long s.resends) in
    let k₂ = e₂ ∙ behind 4 f l room room₁ part refl (omega (arith, number_long s.length)) flags.is first.is in
    let k₃ = e₃ ∙ behind 12 (f ++ l) p room room₂ part₂ fl (omega (arith, number_long s.at)) k₂ second.is in
    let k₄ = e₄ ∙ behind 20 ((f ++ l) ++ p) q room room₃ part₃ flp (omega (arith, number_long s.size)) k₃ third.is in
    let k₅ = e₅ ∙ behind 28 (((f ++ l) ++ p) ++ q) r room room₄ part₄ flpq (omega (arith, number_long s.resends)) k₄ fourth.is in
    let shape : ((((f ++ l) ++ p) ++ q) ++ r) ++ n ≡ f ++ ((l ++ p) ++ ((q ++ r) ++ n)) = simp append_assoc in
    record {
      is =
          behind 36 ((((f ++ l) ++ p) ++ q) ++ r) n room room₅ part₅ flpqr (omega (arith, number_long s.copies)) k₅ fifth.is
          ∙ (ap (λ (t : List ℕ). over t room) shape ∙ rw (out, failed, delivered) refl);
      small = record { length = first.small; at = second.small; size = third.small; resends = fourth.small; copies = fifth.small };
    }

-- ---- the reader

sender_long : (s : Sender) → length (sender_bytes s) ≡ sender_control_size
unfolding number_bytes sender_bytes
sender_long s = refl

pub flags_long : (bs : List Bool) → length (flag_bytes bs) ≡ length bs
flags_long [] = refl
flags_long (b ∷ bs) = ap suc (flags_long bs)

-- The byte of a lock.
pub flag_at : (locked : List Bool) (i : ℕ) → i < length locked → get_or (flag_bytes locked) i 0 ≡ flag_byte (get_or locked i false)
flag_at [] i h = absurd (omega arith)
flag_at (b ∷ bs) zero h = refl
flag_at (b ∷ bs) (suc i) h = flag_at bs i (omega arith)

pub table_long : (t : Table) → SizedTable t → length (table_bytes t) ≡ 27
unfolding table_bytes
table_long t k = simp length-append (omega (arith, k.present, k.permanent, k.locked, flags_long t.locked))

pub device_long : (d : Device) → SizedTable d.table → length (device_bytes d) ≡ 31
unfolding device_bytes
device_long d k = simp length-append (omega (arith, table_long d.table k))

pub table_put : {t : Table} {f room room₁ room₂ part part₂ : List ℕ} → 27 ≤ length room → length t.present ≡ 9 → length t.permanent ≡ 9 → length t.locked ≡ 9 →
    Over t.present room room₁ → Over t.permanent (take (length room₁ - 9) (drop 9 room₁)) part → room₂ ≡ back 9 part room₁ → LockBytes t.locked f →
    Over f (take (length room₂ - 18) (drop 18 room₂)) part₂ → PutsTable t room (back 18 part₂ room₂)
unfolding table_bytes
table_put {t} {f} {room} {room₁} {room₂} {part} {part₂} l p q m present permanent e flags locks =
    let both = behind 9 t.present t.permanent room room₁ part p (omega arith) present.is permanent.is in
    let two : length (t.present ++ t.permanent) ≡ 18 = length-append t.present t.permanent ∙ omega arith in
    let long : length f ≡ 9 = ap length flags.is ∙ (flags_long t.locked ∙ m) in
    record {
      is =
          behind 18 (t.present ++ t.permanent) f room room₂ part₂ two (omega arith) (e ∙ both) locks.is
          ∙ rw (append_assoc t.present t.permanent f, flags.is) refl;
      sized = record { present = p; permanent = q; locked = m };
    }

pub device_put : {d : Device} {a b e f : ℕ} {room room₁ part : List ℕ} → 31 ≤ length room → a ≡ flag_byte d.switches.scanning → b ≡ flag_byte d.switches.session → e ≡ flag_byte d.switches.aim →
    f ≡ flag_byte d.switches.led →
    PutsTable d.table room room₁ →
    Over (a ∷ b ∷ e ∷ f ∷ []) (take (length room₁ - 27) (drop 27 room₁)) part →
    PutsDevice d room (back 27 part room₁)
unfolding device_bytes
device_put {d} {a} {b} {e} {f} {room} {room₁} {part} l scanning session aim led table flags =
    record {
      is =
          behind 27 (table_bytes d.table) (a ∷ b ∷ e ∷ f ∷ []) room room₁ part (table_long d.table table.sized) (omega arith) table.is flags.is
          ∙ rw (scanning, session, aim, led) refl;
      sized = table.sized;
    }

pub reader_put : {r : Reader} {room room₁ room₂ room₃ part part₂ part₃ : List ℕ} → reader_control_size ≤ length room → PutsHalves r.line room room₁ →
    PutsNumber r.last_answer (take (length room₁ - 18) (drop 18 room₁)) part →
    room₂ ≡ back 18 part room₁ →
    PutsDevice r.device (take (length room₂ - 26) (drop 26 room₂)) part₂ →
    room₃ ≡ back 26 part₂ room₂ →
    PutsSender r.sender (take (length room₃ - 57) (drop 57 room₃)) part₃ →
    PutsReader r room (back 57 part₃ room₃)
unfolding reader_bytes
reader_put {r} {room} {room₁} {room₂} {room₃} {part} {part₂} {part₃} l line answer e device f sender =
    let h = halves_bytes r.line in
    let n = number_bytes r.last_answer in
    let d = device_bytes r.device in
    let s = sender_bytes r.sender in
    let hn : length (h ++ n) ≡ 26 = length-append h n ∙ omega (arith, halves_long r.line, number_long r.last_answer) in
    let hnd : length ((h ++ n) ++ d) ≡ 57 = length-append (h ++ n) d ∙ omega (arith, device_long r.device device.sized) in
    let second = behind 18 h n room room₁ part (halves_long r.line) (omega (arith, number_long r.last_answer)) line.is answer.is in
    let third = behind 26 (h ++ n) d room room₂ part₂ hn (omega (arith, device_long r.device device.sized)) (e ∙ second) device.is in
    record {
      is =
          behind 57 ((h ++ n) ++ d) s room room₃ part₃ hnd (omega (arith, sender_long r.sender)) (f ∙ third) sender.is
          ∙ simp append_assoc;
      small = record { line = line.small; last_answer = answer.small; table = device.sized; sender = sender.small };
    }
