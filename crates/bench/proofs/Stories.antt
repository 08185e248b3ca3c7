-- Runs that are computed whole: the story of sample 8, every kind of fate, equal cards and equal pieces, with the rules for them and without, a barred
-- hub. Assumes nothing.
use Prim.Native.Nat.{ℕ}
use mathlib.Core.Path.{◌≡◌, refl}
use mathlib.Core.Bool.{true, false}
use mathlib.Core.List.{[], ◌∷◌, flat_map}
use lib.ListN.{replicate}
use Rattle.framer.specs.declared.Event.TheVariants.{MessageGap}
use Rattle.reader.specs.Promises.{sent_of}
use Rattle.bench.specs.Bench as bench
use Rattle.bench.specs.Bench.{delivered, failed, out}
use Rattle.bench.specs.Stories.{runs, fared_one, fared, all_copies, sample8, sample8_handed, sample8_copies, every_fate, card, equal_cards, equal_end, gaps, equal_letters, equal_pieces, hub_hands, second_lost, card_twice, plain_pieces, barred_tells, barred_expected}
use Rattle.bench.proofs.Opening.{opening}

all_of_it : ℕ
unfolding opening bench.left bench.gap_after bench.arrives bench.packets_in bench.accepted bench.latest bench.handing bench.hub_answers sent_of bench.answers_in bench.noted bench.noting bench.gap_first bench.begins bench.begin bench.hub_hears bench.in_time bench.reader_hears bench.tried bench.trial bench.bench_step bench.played bench.bench runs fared_one fared all_copies gaps hub_hands second_lost barred_tells flat_map
all_of_it = 0

-- ---- sample 8

-- The card is handed out once, with its one 8.
pub sample_8_handed : (runs sample8).handed ≡ sample8_handed
unfolding all_of_it
sample_8_handed = refl

-- Its last packet is written twice, and only the second copy has the resend mark.
pub sample_8_copies : all_copies (runs sample8) ≡ sample8_copies
unfolding all_of_it
sample_8_copies = refl

-- It is called delivered. Its last packet, the latest, was tried twice.
pub sample_8_fared : fared (runs sample8) ≡ record { ending = delivered; copies = 2 ∷ 1 ∷ []; tries = 2 ∷ 1 ∷ [] } ∷ []
unfolding all_of_it
sample_8_fared = refl

-- ---- every kind of fate

-- From the latest: one still out, whose second copy waits; one delivered at the second try; one that failed, though the hub had it; one
-- delivered at the third try.
pub every_fate_fared : fared (runs every_fate)
    ≡ record { ending = out; copies = 2 ∷ []; tries = 1 ∷ [] }
    ∷ record { ending = delivered; copies = 2 ∷ []; tries = 2 ∷ [] }
    ∷ record { ending = failed; copies = 3 ∷ []; tries = 3 ∷ [] }
    ∷ record { ending = delivered; copies = 3 ∷ []; tries = 3 ∷ [] }
    ∷ []
unfolding all_of_it
every_fate_fared = refl

pub every_fate_handed : (runs every_fate).handed
    ≡ record { code = 0x1B; bytes = 0x39 ∷ [] } ∷ record { code = 0x1B; bytes = 0x39 ∷ [] } ∷ record { code = 0x1B; bytes = 0x38 ∷ [] } ∷ []
unfolding all_of_it
every_fate_handed = refl

-- ---- two equal cards

-- Both are called delivered, and both are handed out: a message gap came before the second.
pub equal_cards_fared : fared (runs equal_cards)
    ≡ record { ending = delivered; copies = 2 ∷ []; tries = 2 ∷ [] } ∷ record { ending = delivered; copies = 1 ∷ []; tries = 1 ∷ [] } ∷ []
unfolding all_of_it
equal_cards_fared = refl

pub equal_cards_handed : (runs equal_cards).handed ≡ record { code = 0x1B; bytes = 0x38 ∷ [] } ∷ record { code = 0x1B; bytes = 0x38 ∷ [] } ∷ []
unfolding all_of_it
equal_cards_handed = refl

pub equal_cards_gaps : gaps (runs equal_cards) ≡ true ∷ false ∷ []
unfolding all_of_it
equal_cards_gaps = refl

-- So it is with a card that equals the last packet of a longer one.
pub equal_end_handed : (runs equal_end).handed ≡ record { code = 0x1B; bytes = 0x38 ∷ [] } ∷ record { code = 0x1B; bytes = card } ∷ []
unfolding all_of_it
equal_end_handed = refl

-- ---- two equal pieces

-- 501 equal characters come out whole, though the second piece was lost at first; it was cut shorter, so that the last one has 2.
pub equal_pieces_handed : (runs equal_pieces).handed ≡ record { code = 0x1B; bytes = equal_letters } ∷ []
unfolding all_of_it
equal_pieces_handed = refl

-- ---- that both rules are needed

-- Without the gap the second card is lost; with it both are handed out.
pub no_gap_loses : hub_hands (second_lost [] card_twice) ≡ record { code = 0x1B; bytes = 0x38 ∷ [] } ∷ []
unfolding all_of_it
no_gap_loses = refl

pub gap_keeps : hub_hands (second_lost (MessageGap ∷ []) card_twice) ≡ record { code = 0x1B; bytes = 0x38 ∷ [] } ∷ record { code = 0x1B; bytes = 0x38 ∷ [] } ∷ []
unfolding all_of_it
gap_keeps = refl

-- Without the cut 251 characters are handed out, which nobody sent; with it all 501, as above.
pub no_cut_shortens : hub_hands (second_lost [] plain_pieces) ≡ record { code = 0x1B; bytes = replicate 251 0x41 } ∷ []
unfolding all_of_it
no_cut_shortens = refl

-- ---- a barred hub

pub barred_hub_told : barred_tells ≡ barred_expected
unfolding all_of_it
barred_hub_told = refl
