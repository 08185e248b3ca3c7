-- Demand 3 from the sender's side: what becomes of a message that is begun.
use Rattle.std.specs.Prelude.{ℕ, true, List, ◌∷◌, ◌≡◌}
use Rattle.words.specs.Lists.{both, Each}
use Rattle.bench.specs.Bench.{Try, Tried, delivered, out, Begun, Bench}
use Rattle.bench.specs.Delivery.{arrived, message_of}

-- Some element of a list is such.
pub data Some {A : Type 0} (P : A → Type 0) : List A → Type 0 where
  here : {x : A} {xs : List A} → P x → Some P (x ∷ xs)
  behind : {x : A} {xs : List A} → Some P xs → Some P (x ∷ xs)

-- A try that arrives whole, going and coming back; a packet that had one.
abbrev pub Good : Try → Type 0
Good t = both (arrived t.going) (arrived t.coming) ≡ true

abbrev pub GotThrough : Tried → Type 0
GotThrough p = Some Good p.tries

-- A message that was begun on bench b has ended on bench e. If each of its packets that were sent got through, it is called delivered; and then the
-- hub has handed it out, behind what was handed out before, and nothing else.
pub record Ends (code : ℕ) (m : List ℕ) (b e : Bench) : Type 0 where
  pub begun : Begun
  pub logged : e.sheet.log ≡ begun ∷ b.sheet.log
  pub its : message_of begun ≡ record { code = code; bytes = m }
  pub over : begun.ending ≡ out → ⊥
  pub delivers : Each GotThrough begun.packets → begun.ending ≡ delivered
  pub hands_out_lem : begun.ending ≡ delivered → e.handed ≡ record { code = code; bytes = m } ∷ b.handed
