-- §16, the notation that the listings share: two hex digits of either case are a byte, `.` and `/` are gaps, blanks are skipped.
use Rattle.std.specs.Prelude.{ℕ, ◌+◌, ◌*◌, ◌-◌, ◌%◌, Bool, Option, Some, None, ltb, leb, eqb}
use Rattle.words.specs.Lists.{pick, either}
use Rattle.listing.specs.declared.Token.{Token}
use Rattle.listing.specs.declared.Token.TheVariants.{Nothing, Byte, CharacterGap, MessageGap, Sign, Lone}
use Rattle.listing.specs.declared.Taken.{Taken}

-- 0 to 9, A to F, a to f.
unfoldable pub digit_of : ℕ → Option ℕ
digit_of c =
    pick (ltb c 48) None
    (pick (leb c 57) (Some (c - 48))
    (pick (ltb c 65) None
    (pick (leb c 70) (Some (c - 55))
    (pick (ltb c 97) None
    (pick (leb c 102) (Some (c - 87)) None)))))

-- Space, line feed and carriage return are skipped.
unfoldable pub is_blank : ℕ → Bool
is_blank c = either (eqb c 32) (either (eqb c 10) (eqb c 13))

unfoldable pub sign_of : ℕ → Token
sign_of c = pick (is_blank c) Nothing (pick (eqb c 46) CharacterGap (pick (eqb c 47) MessageGap (Sign c)))

-- A first digit waits; any other character is a sign of its own.
unfoldable pub first_of : Option ℕ → ℕ → Taken
first_of (Some v) c = record { waiting = Some v; token = Nothing }
first_of None c = record { waiting = None; token = sign_of c }

-- The byte of two digits. Any numbers are taken: what is above four bits does not count.
unfoldable pub byte_of : ℕ → ℕ → ℕ
byte_of high low = high % 16 * 16 + low % 16

-- Behind a first digit only a second one is right.
unfoldable pub second_of : ℕ → Option ℕ → Taken
second_of high (Some low) = record { waiting = None; token = Byte (byte_of high low) }
second_of high None = record { waiting = None; token = Lone }

-- One character, with the digit before it that waits.
unfoldable pub take_of : Option ℕ → ℕ → Taken
take_of (Some high) c = second_of high (digit_of c)
take_of None c = first_of (digit_of c) c
