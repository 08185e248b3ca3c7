-- §10: copies and resends of the packets of one message.
use Rattle.std.specs.Prelude.{ℕ, ◌+◌, ◌/◌, Bool, true, false, List, [], ◌∷◌, eqb, ltb, length, get_or}
use Rattle.words.specs.Lists.{pick, both, either, same_bytes}
use Rattle.words.specs.Machine.{Done}
use Rattle.packet.specs.Opcodes.{cmd_ack, cmd_nak}
use Rattle.packet.specs.Packet.{marked}
use Rattle.packet.specs.Sizes.{message_size}
use Rattle.packet.specs.declared.Refusal.{Refusal}
use Rattle.packet.specs.declared.Refusal.TheVariants.{Start}
use Rattle.sender.specs.Pieces.{packets_of}
use Rattle.sender.specs.declared.Heard.{Heard}
use Rattle.sender.specs.declared.Heard.TheVariants.{Ack, Nak, TimeOut, Nothing}

-- The packets still to be acknowledged, the present one first (none: no message is out); how often the present one was resent; the
-- marked copies written for this message. With none out: whether the message before failed, and else its last packet's body (no bytes: there was none).
pub record SenderState : Type 0 where
  pub queue : List (List ℕ)
  pub resends : ℕ
  pub copies : ℕ
  pub failed : Bool
  pub last : List ℕ

-- What the sender gives out: a copy of a packet (its body), with whether a message gap is due before it; the end of a message with the number
-- of its marked copies; or a refusal.
pub data Sent : Type 0 where
  copy : Bool → List ℕ → Sent
  delivered : ℕ → Sent
  failed : ℕ → Sent
  refused : Refusal → Sent

abbrev pub nothing_out : Bool → List ℕ → SenderState
nothing_out f p = record { queue = []; resends = 0; copies = 0; failed = f; last = p }

-- With a message out nothing is kept of the one before.
abbrev pub sending : List (List ℕ) → ℕ → ℕ → SenderState
sending q r c = record { queue = q; resends = r; copies = c; failed = false; last = [] }

abbrev pub ignores : SenderState → Done SenderState Sent
ignores s = record { next = s; told = [] }

-- Whether a message is out.
unfoldable pub some : List (List ℕ) → Bool
some [] = false
some (p ∷ ps) = true

abbrev pub waits : SenderState → Bool
waits s = some s.queue

-- Is a message gap due before a message that begins with this packet? After one that failed, and where the packet equals the last one of the
-- message before: were its first copy lost, a hub would take its marked copy for a resend of that one.
unfoldable pub gap_due : SenderState → List ℕ → Bool
gap_due s p = either s.failed (same_bytes s.last p)

-- A start: 11 for a message that is too long, or one still out; else the first copy.
unfoldable pub begins : List (List ℕ) → SenderState → Done SenderState Sent
begins [] s = ignores s
begins (p ∷ ps) s = record { next = sending (p ∷ ps) 0 0; told = copy (gap_due s p) p ∷ [] }

unfoldable pub start_step : SenderState → ℕ → List ℕ → Done SenderState Sent
start_step s code m =
    pick (either (ltb message_size (length m)) (waits s)) (record { next = s; told = refused Start ∷ [] }) (begins (packets_of code m) s)

-- How often a packet is resent at most.
abbrev pub resend_limit : ℕ
resend_limit = 2

-- NAK 1 or a time-out resends with bit 0 set, so often; then failed.
unfoldable pub fails : SenderState → Done SenderState Sent
fails s = record { next = nothing_out true []; told = failed s.copies ∷ [] }

unfoldable pub resends : List ℕ → SenderState → Done SenderState Sent
resends p s =
    pick (ltb s.resends resend_limit)
    (record { next = sending s.queue (s.resends + 1) (s.copies + 1); told = copy false (marked p) ∷ [] })
    (fails s)

-- ACK goes on to the next packet or reports delivered. Another NAK cause fails at once. With nothing out, all of these do nothing.
unfoldable pub out_step : List (List ℕ) → SenderState → Heard → Done SenderState Sent
out_step [] s h = ignores s
out_step (p ∷ []) s Ack = record { next = nothing_out false p; told = delivered s.copies ∷ [] }
out_step (p ∷ q ∷ ps) s Ack = record { next = sending (q ∷ ps) 0 s.copies; told = copy false q ∷ [] }
out_step (p ∷ ps) s (Nak cause) = pick (eqb cause 1) (resends p s) (fails s)
out_step (p ∷ ps) s TimeOut = resends p s
out_step (p ∷ ps) s Nothing = ignores s

unfoldable pub sender_step : SenderState → Heard → Done SenderState Sent
sender_step s h = out_step s.queue s h

-- Of the source that is heeded, only ACK without data and NAK with one byte, status 0 or 1; others do nothing.
unfoldable pub heed_of : ℕ → ℕ → ℕ → ℕ → List ℕ → Heard
heed_of heeded opcode source status carried =
    pick (both (eqb source heeded) (eqb (status / 2) 0))
    (pick (both (eqb opcode cmd_ack) (eqb (length carried) 0)) Ack
    (pick (both (eqb opcode cmd_nak) (eqb (length carried) 1)) (Nak (get_or carried 0 0)) Nothing))
    Nothing
