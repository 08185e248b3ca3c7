-- However a text is cut, what is written for it is the listing of the whole; and §16's example. Assumes nothing.
use Prim.Native.Nat.{ℕ, ◌≤◌}
use mathlib.Core.Path.{◌≡◌, refl}
use mathlib.Core.Bool.{true, false}
use mathlib.Core.List.{List, [], ◌∷◌, ◌++◌, flat_map}
use lib.ListN.{length, take}
use Rattle.words.specs.Lists.{same_bytes}
use Rattle.words.specs.Machine.{after, through, given}
use Rattle.packet.specs.Packet.{body_in, body_of, check_of, checksum_in, checksum_of, data_in, head_in, is_answer, reply_body, reply_data, reply_opcode, resent_equal, seal, status_allowed, sum_of, unmarked}
use Rattle.framer.specs.Framer.{at_byte, at_gap, framer_step, judged}
use Rattle.framer.specs.Behind.{framed}
use Rattle.framer.specs.Halves.{line_in, kept_in, last_of}
use Rattle.framer.specs.Promises.{line_of as lineHeard, begun_of}
use Rattle.hub.specs.Joiner.{adding, barring, bytes_of, join_step, joined, other_type, piece_in, type_in}
use Rattle.hub.specs.Hub.{cleared, decode_step, heard_step, hub_step, packet_step}
use Rattle.hub.specs.Promises.{state_of, joiner_of, sound_of, gathered_of}
use Rattle.listing.specs.Lines.{answer_line, capital_of, error_line, hex_byte, hex_bytes, line_of}
use Rattle.listing.specs.Listing.{goes, last_line, list_step, lone_line, skips, stops}
use Rattle.listing.specs.Listing as listing
use Rattle.listing.specs.Tokens.{byte_of, digit_of, first_of, is_blank, second_of, sign_of, take_of}
use Rattle.listing.proofs.Sessions.{ran_none, ran_more}
use Rattle.listing.proofs.Sessions as session
use Rattle.hub_lister.specs.declared.Lister.{Lister}
use Rattle.hub_lister.specs.declared.Listed.{Listed}
use Rattle.hub_lister.specs.Listing.{acts, happens, listing_of, output_line}
use Rattle.hub_lister.specs.Promises.{reading_of, lines_size, Starts, Listens, Finishes, Ran}
use Rattle.listing.specs.Session.{Hears}

-- ---- §16's example, by computation

by_computation : ℕ
unfolding through after given flat_map same_bytes body_in body_of check_of checksum_in checksum_of data_in head_in is_answer reply_body reply_data reply_opcode resent_equal seal status_allowed sum_of unmarked at_byte at_gap framer_step judged framed adding barring bytes_of join_step joined other_type piece_in type_in cleared decode_step heard_step hub_step packet_step capital_of hex_byte hex_bytes line_of byte_of digit_of first_of is_blank second_of sign_of take_of acts answer_line error_line goes happens last_line list_step listing.listing_of listing_of lone_line output_line skips stops
by_computation = 0

-- `06 F3 00 00 1B 38 FE B4 . 06 F3 00 01 1B 38 FE B3 .`
pub example : List ℕ
example =
    48 ∷ 54 ∷ 32 ∷ 70 ∷ 51 ∷ 32 ∷ 48 ∷ 48 ∷ 32 ∷ 48 ∷ 48 ∷ 32 ∷ 49 ∷ 66 ∷ 32 ∷ 51 ∷ 56 ∷ 32 ∷ 70 ∷ 69 ∷ 32 ∷ 66 ∷ 52 ∷ 32 ∷ 46 ∷ 32
    ∷ 48 ∷ 54 ∷ 32 ∷ 70 ∷ 51 ∷ 32 ∷ 48 ∷ 48 ∷ 32 ∷ 48 ∷ 49 ∷ 32 ∷ 49 ∷ 66 ∷ 32 ∷ 51 ∷ 56 ∷ 32 ∷ 70 ∷ 69 ∷ 32 ∷ 66 ∷ 51 ∷ 32 ∷ 46 ∷ []

-- `M 1B 38`, `A 04 D0 04 00 FF 28`, `A 04 D0 04 00 FF 28`
pub example_lines : List ℕ
example_lines =
    77 ∷ 32 ∷ 49 ∷ 66 ∷ 32 ∷ 51 ∷ 56 ∷ 10 ∷ 65 ∷ 32 ∷ 48 ∷ 52 ∷ 32 ∷ 68 ∷ 48 ∷ 32 ∷ 48 ∷ 52 ∷ 32 ∷ 48 ∷ 48 ∷ 32 ∷ 70 ∷ 70 ∷ 32 ∷ 50
    ∷ 56 ∷ 10 ∷ 65 ∷ 32 ∷ 48 ∷ 52 ∷ 32 ∷ 68 ∷ 48 ∷ 32 ∷ 48 ∷ 52 ∷ 32 ∷ 48 ∷ 48 ∷ 32 ∷ 70 ∷ 70 ∷ 32 ∷ 50 ∷ 56 ∷ 10 ∷ []

pub example_listed : listing_of example ≡ example_lines
unfolding by_computation example example_lines
example_listed = refl

-- ---- a session

-- A listing that was started stands where every session begins.
pub begins : (line gather : List ℕ) {l : Lister} → Starts l → Ran l line gather
unfolding state_of line_in kept_in last_of lineHeard begun_of joiner_of sound_of gathered_of unmarked
begins line gather s = record { ran = ran_none (rw s.is refl) }

-- Each call goes on from where it stands.
pub continues : {l : Lister} {line gather text room : List ℕ} {r : Listed} {line' gather' room' : List ℕ} → Ran l line gather → Listens l line gather text room r line' gather' room' →
    Ran r.lister line' gather'
continues k h = record { ran = ran_more k.ran h.hears }

-- A call with room for the lines of one character takes one.
pub takes_one : {l : Lister} {line gather text room : List ℕ} {r : Listed} {line' gather' room' : List ℕ} → Listens l line gather text room r line' gather' room' → l.ended ≡ false →
    lines_size ≤ length room → 1 ≤ length text → 1 ≤ r.taken
takes_one k e h t = session.one_taken k.hears e h t

-- However a text is cut, what is written for it is the listing of the whole: where the input ends, and where `E` ends it.
pub session_ends : {l : Lister} {line gather room room' : List ℕ} {r : ℕ} (k : Ran l line gather) → 2 ≤ length room → Finishes l room r room' →
    k.ran.written ++ take r room' ≡ listing_of k.ran.taken
unfolding listing_of
session_ends k h f = session.session_ends k.ran.session h f.finishes

pub session_ended : {l : Lister} {line gather : List ℕ} (k : Ran l line gather) → l.ended ≡ true → (rest : List ℕ) → k.ran.written ≡ listing_of (k.ran.taken ++ rest)
unfolding listing_of
session_ended k e rest = session.session_ended k.ran.session e rest

-- What a call promises of its buffers and its room, where they are known by other names.
pub listens : {l : Lister} {line gather text room : List ℕ} {r : Listed} {line₁ gather₁ room₁ line₂ gather₂ room₂ : List ℕ} →
    line₁ ≡ line₂ → gather₁ ≡ gather₂ → room₁ ≡ room₂ → Hears acts lines_size (reading_of l line gather) text room r.taken r.count (reading_of r.lister line₁ gather₁) room₁ →
    Listens l line gather text room r line₂ gather₂ room₂
listens a b c h = rw (← a, ← b, ← c) (record { hears = h })
