-- §2 and §6: how many bytes packets, answers and messages have at most. Rooms and buffers are asked for by these names.
use Rattle.std.specs.Prelude.{ℕ}

-- A packet: length, opcode, source and status before the data, two bytes of checksum behind it.
abbrev pub head_size : ℕ
head_size = 4

abbrev pub checksum_size : ℕ
checksum_size = 2

-- The longest data, the longest packet without its checksum, and with it.
abbrev pub data_size : ℕ
data_size = 251

abbrev pub body_size : ℕ
body_size = 255

abbrev pub packet_size : ℕ
packet_size = 257

-- The longest ACK or NAK, which is a NAK.
abbrev pub answer_size : ℕ
answer_size = 7

-- The longest message, its code type not counted.
abbrev pub message_size : ℕ
message_size = 4096
