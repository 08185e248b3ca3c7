-- §2 to §4 and §7: layout, checksum, status, the packet check, building, ACK and NAK.
use Rattle.std.specs.Prelude.{ℕ, ◌+◌, ◌-◌, ◌*◌, ◌/◌, ◌%◌, Bool, List, [], ◌∷◌, ◌++◌, eqb, ltb, leb, length, get_or, take, drop, set, Result, Ok, Err}
use Rattle.words.specs.Lists.{pick, both, either, same_bytes}
use Rattle.packet.specs.Opcodes.{host, reader, cmd_ack, cmd_nak, decode_data}
use Rattle.packet.specs.Sizes.{data_size}
use Rattle.packet.specs.declared.Refusal.{Refusal}
use Rattle.packet.specs.declared.Refusal.TheVariants.{Length, Checksum, Cut, Source, Status, Data, Room}
use Rattle.packet.specs.declared.Head.{Head}
use Rattle.packet.specs.declared.Reply.{Reply}
use Rattle.packet.specs.declared.Reply.TheVariants.{Ack, Nak}

-- A body is a packet without its checksum: length, opcode, source, status, data. The length doesn't count the checksum.
unfoldable pub body_of : ℕ → ℕ → ℕ → List ℕ → List ℕ
body_of opcode source status carried = (length carried + 4) ∷ opcode ∷ source ∷ status ∷ carried

-- The byte sum, and the checksum, its two's complement.
unfoldable pub sum_of : List ℕ → ℕ
sum_of [] = 0
sum_of (x ∷ xs) = x + sum_of xs

unfoldable pub checksum_of : List ℕ → ℕ
checksum_of body = 65536 - sum_of body

-- The packet: the body and its checksum, high byte first.
unfoldable pub seal : List ℕ → List ℕ
seal body = body ++ (checksum_of body / 256 % 256 ∷ checksum_of body % 256 ∷ [])

-- The fields of a packet that stands at the front of some bytes; the data is the part that starts at the fifth byte.
unfoldable pub body_in : List ℕ → List ℕ
body_in s = take (get_or s 0 0) s

unfoldable pub data_in : List ℕ → List ℕ
data_in s = take (get_or s 0 0 - 4) (drop 4 s)

unfoldable pub head_in : List ℕ → Head
head_in s = record { length = get_or s 0 0; opcode = get_or s 1 0; source = get_or s 2 0; status = get_or s 3 0 }

unfoldable pub checksum_in : List ℕ → ℕ
checksum_in s = get_or s (get_or s 0 0) 0 * 256 + get_or s (get_or s 0 0 + 1) 0

-- Status: bit 0 resend, bit 1 more packets follow, bit 3 permanent change.
abbrev pub resend_bit : ℕ → ℕ
resend_bit status = status % 2

abbrev pub more_bit : ℕ → ℕ
more_bit status = status / 2 % 2

abbrev pub permanent_bit : ℕ → ℕ
permanent_bit status = status / 8 % 2

-- Bits 2 and 4 to 7 must be 0. Bit 1 is allowed only for DECODE_DATA.
unfoldable pub status_allowed : ℕ → ℕ → Bool
status_allowed opcode status =
    both (eqb (status / 4 % 2) 0) (both (eqb (status / 16) 0) (either (eqb (more_bit status) 0) (eqb opcode decode_data)))

-- The packet check judges the front of the bytes it is lent: a first byte below 4 is 1, no bytes or too few is 3, then 2.
unfoldable pub check_of : List ℕ → Result Head Refusal
check_of s =
    pick (eqb (length s) 0) (Err Cut)
    (pick (ltb (get_or s 0 0) 4) (Err Length)
    (pick (ltb (length s) (get_or s 0 0 + 2)) (Err Cut)
    (pick (eqb (checksum_in s) (checksum_of (body_in s))) (Ok (head_in s)) (Err Checksum))))

-- Building gives 4 for a source other than 0 or 4, 5 as above, 7 for over 251 data bytes; the opcode is free.
unfoldable pub source_allowed : ℕ → Bool
source_allowed source = either (eqb source reader) (eqb source host)

unfoldable pub fields_of : ℕ → ℕ → ℕ → ℕ → Result ℕ Refusal
fields_of opcode source status n =
    pick (source_allowed source)
    (pick (status_allowed opcode status) (pick (leb n data_size) (Ok (n + 6)) (Err Data)) (Err Status))
    (Err Source)

-- Before these 13, for less room than the call asks for.
unfoldable pub build_of : ℕ → List ℕ → ℕ → ℕ → ℕ → ℕ → Result ℕ Refusal
build_of need room opcode source status n = pick (ltb (length room) need) (Err Room) (fields_of opcode source status n)

-- What goes into the room: the packet, or nothing where it is refused.
unfoldable pub written : Result ℕ Refusal → List ℕ → List ℕ
written (Ok n) packet = packet
written (Err r) packet = []

-- So many bytes were written; none where it was refused.
abbrev pub size_of : Result ℕ Refusal → ℕ
size_of (Ok n) = n
size_of (Err r) = 0

-- CMD_ACK has no data, CMD_NAK one cause byte. All answers have status 0.
unfoldable pub reply_data : Reply → List ℕ
reply_data Ack = []
reply_data (Nak cause) = cause ∷ []

unfoldable pub reply_opcode : Reply → ℕ
reply_opcode Ack = cmd_ack
reply_opcode (Nak cause) = cmd_nak

unfoldable pub reply_body : ℕ → Reply → List ℕ
reply_body source reply = body_of (reply_opcode reply) source 0 (reply_data reply)

-- A body without its resend mark, and with it; equal apart from that mark.
unfoldable pub unmarked : List ℕ → List ℕ
unmarked body = set body 3 (get_or body 3 0 / 2 * 2)

unfoldable pub marked : List ℕ → List ℕ
marked body = set body 3 (get_or body 3 0 / 2 * 2 + 1)

unfoldable pub equal_unmarked : List ℕ → List ℕ → Bool
equal_unmarked a b = same_bytes (unmarked a) (unmarked b)

-- A resent equal of the last accepted packet, whose body without its mark is `last` (no bytes: none): the resend mark, and equal apart from it.
unfoldable pub resent_equal : List ℕ → List ℕ → Bool
resent_equal last body = both (eqb (resend_bit (get_or body 3 0)) 1) (same_bytes last (unmarked body))

-- CMD_ACK and CMD_NAK are never refused or answered, right or wrong.
unfoldable pub is_answer : ℕ → Bool
is_answer opcode = either (eqb opcode cmd_ack) (eqb opcode cmd_nak)
