-- One law for each answer of the functions that read a character. Assumes nothing.
use Prim.Native.Nat.{ℕ, ◌+◌, ◌-◌, ◌<◌, ◌≤◌}
use mathlib.Core.Path.{◌≡◌, refl}
use native.Mathlib.Omega.{arith}
use borrow.Author.Tests.{lt-ltb, le-ltb, le-leb, lt-leb, ne_eqb}
use Rattle.std.proofs.Common.{Option, Some, None, ◌⊎◌, inl, inr}
use Rattle.listing.specs.declared.Token.{Token}
use Rattle.listing.specs.declared.Token.TheVariants.{Nothing, Byte, CharacterGap, MessageGap, Sign, Lone}
use Rattle.listing.specs.Tokens.{digit_of, is_blank, sign_of, first_of, second_of, take_of}
use Rattle.listing.specs.Promises.{IsDigit, Takes, Signs, Joined}

-- ---- a hex digit, by the ranges of the characters

module _ {c : ℕ} where
  pub below_digits : c < 48 → IsDigit c None
  unfolding digit_of
  below_digits h = record { is = simp (lt-ltb c 48 h) }

  pub decimal_digit : 48 ≤ c → c < 58 → IsDigit c (Some (c - 48))
  unfolding digit_of
  decimal_digit h l = record { is = simp (le-ltb c 48 h, le-leb c 57 (omega arith)) }

module _ {c : ℕ} (a : 58 ≤ c) where
  pub below_capitals : c < 65 → IsDigit c None
  unfolding digit_of
  below_capitals h = record { is = simp (le-ltb c 48 (omega arith), lt-leb c 57 a, lt-ltb c 65 h) }

  pub capital_digit : 65 ≤ c → c < 71 → IsDigit c (Some (c - 65 + 10))
  unfolding digit_of
  capital_digit h l =
      let worth : c - 65 + 10 ≡ c - 55 = omega arith in
      record { is = rw worth (simp (le-ltb c 48 (omega arith), lt-leb c 57 a, le-ltb c 65 h, le-leb c 70 (omega arith))) }

module _ {c : ℕ} (a : 71 ≤ c) where
  pub below_small : c < 97 → IsDigit c None
  unfolding digit_of
  below_small h = record { is = simp (le-ltb c 48 (omega arith), lt-leb c 57 (omega arith), le-ltb c 65 (omega arith), lt-leb c 70 a, lt-ltb c 97 h) }

  pub small_digit : 97 ≤ c → c < 103 → IsDigit c (Some (c - 97 + 10))
  unfolding digit_of
  small_digit h l =
      let worth : c - 97 + 10 ≡ c - 87 = omega arith in
      record { is = rw worth (simp (le-ltb c 48 (omega arith), lt-leb c 57 (omega arith), le-ltb c 65 (omega arith), lt-leb c 70 a, le-ltb c 97 h, le-leb c 102 (omega arith))) }

  pub above_digits : 103 ≤ c → IsDigit c None
  unfolding digit_of
  above_digits l = record { is = simp (le-ltb c 48 (omega arith), lt-leb c 57 (omega arith), le-ltb c 65 (omega arith), lt-leb c 70 a, le-ltb c 97 (omega arith), lt-leb c 102 l) }

-- ---- a sign

pub blank : {c : ℕ} → (c ≡ 10) ⊎ ((c ≡ 13) ⊎ (c ≡ 32)) → Signs c Nothing
unfolding sign_of is_blank
blank (inl e) = record { is = rw e refl }
blank (inr (inl e)) = record { is = rw e refl }
blank (inr (inr e)) = record { is = rw e refl }

pub character_gap : {c : ℕ} → c ≡ 46 → Signs c CharacterGap
unfolding sign_of is_blank
character_gap e = record { is = rw e refl }

pub message_gap : {c : ℕ} → c ≡ 47 → Signs c MessageGap
unfolding sign_of is_blank
message_gap e = record { is = rw e refl }

pub other_sign : {c : ℕ} → (c ≡ 32 → ⊥) → (c ≡ 10 → ⊥) → (c ≡ 13 → ⊥) → (c ≡ 46 → ⊥) → (c ≡ 47 → ⊥) → Signs c (Sign c)
unfolding sign_of is_blank
other_sign {c} s f r g m = record { is = simp (ne_eqb c 32 s, ne_eqb c 10 f, ne_eqb c 13 r, ne_eqb c 46 g, ne_eqb c 47 m) }

-- ---- a token

module _ {w : Option ℕ} {c : ℕ} where
  pub takes_byte : {high low b : ℕ} → w ≡ Some high → IsDigit c (Some low) → Joined high low b → Takes w c (record { waiting = None; token = Byte b })
  unfolding take_of second_of
  takes_byte e d j = record { is = rw (e, ← d.is, j.is) refl }

  pub takes_lone : {high : ℕ} → w ≡ Some high → IsDigit c None → Takes w c (record { waiting = None; token = Lone })
  unfolding take_of second_of
  takes_lone e d = record { is = rw (e, ← d.is) refl }

  pub takes_first : {v : ℕ} → w ≡ None → IsDigit c (Some v) → Takes w c (record { waiting = Some v; token = Nothing })
  unfolding take_of first_of
  takes_first e d = record { is = rw (e, ← d.is) refl }

  pub takes_sign : {t : Token} → w ≡ None → IsDigit c None → Signs c t → Takes w c (record { waiting = None; token = t })
  unfolding take_of first_of
  takes_sign e d s = record { is = rw (e, ← d.is, s.is) refl }
