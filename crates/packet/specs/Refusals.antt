-- §6: the number of each refusal, and the NAK that answers it on the line.
use Rattle.std.specs.Prelude.{ℕ, List, [], eqb, ltb, length, Result, Ok, Err}
use Rattle.words.specs.Lists.{pick}
use Rattle.packet.specs.Opcodes.{cmd_nak}
use Rattle.packet.specs.Packet.{seal, fields_of, reply_body}
use Rattle.packet.specs.Sizes.{answer_size}
use Rattle.packet.specs.declared.Reply.TheVariants.{Nak}
use Rattle.packet.specs.declared.Refusal.{Refusal}
use Rattle.packet.specs.declared.Refusal.TheVariants.{Length, Checksum, Cut, Source, Status, Opcode, Data, Beep, Setting, Barred, Start, Form, Room, Long}

abbrev pub number_of : Refusal → ℕ
number_of Length = 1
number_of Checksum = 2
number_of Cut = 3
number_of Source = 4
number_of Status = 5
number_of Opcode = 6
number_of Data = 7
number_of Beep = 8
number_of Setting = 9
number_of Barred = 10
number_of Start = 11
number_of Form = 12
number_of Room = 13
number_of Long = 15

-- The cause byte: 1 resend, 2 bad context, 6 denied; 0 where nothing goes out.
abbrev pub cause_of : Refusal → ℕ
cause_of Length = 1
cause_of Checksum = 1
cause_of Cut = 1
cause_of Source = 2
cause_of Status = 2
cause_of Opcode = 2
cause_of Data = 2
cause_of Beep = 6
cause_of Setting = 6
cause_of Barred = 6
cause_of Start = 0
cause_of Form = 0
cause_of Room = 0
cause_of Long = 0

-- The bytes that answer a refusal: NAK with its cause, and none for those that nothing answers.
unfoldable pub nak_bytes : ℕ → Refusal → List ℕ
nak_bytes source refusal = pick (eqb (cause_of refusal) 0) [] (seal (reply_body source (Nak (cause_of refusal))))

-- Writing them: 13 for less room than any answer asks for; nothing to write, or a NAK built as always.
unfoldable pub nak_of : List ℕ → ℕ → Refusal → Result ℕ Refusal
nak_of room source refusal =
    pick (ltb (length room) answer_size) (Err Room)
    (pick (eqb (cause_of refusal) 0) (Ok 0) (fields_of cmd_nak source 0 1))
