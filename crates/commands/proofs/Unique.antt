-- Each call's contract allows one outcome only. Assumes nothing.
use Prim.Native.Nat.{ℕ}
use mathlib.Core.Path.{◌≡◌, sym, ◌∙◌}
use mathlib.Core.Bool.{Bool}
use mathlib.Core.List.{List}
use Rattle.std.proofs.Common.{Option, Result}
use Rattle.packet.specs.declared.Refusal.{Refusal}
use Rattle.commands.specs.Commands.{Acted}
use Rattle.commands.specs.Promises.{Names, LengthAllowed, Commands}
use Rattle.commands.specs.declared.Command.{Command}
use Rattle.commands.specs.declared.Acted.{Acted as ActedOn}

pub named_by_unique : {opcode : ℕ} {r r' : Option Command} → Names opcode r → Names opcode r' → r ≡ r'
named_by_unique p q = p.is ∙ sym q.is

pub length_allowed_unique : {command : Command} {carried : List ℕ} {r r' : Bool} → LengthAllowed command carried r → LengthAllowed command carried r' → r ≡ r'
length_allowed_unique p q = p.is ∙ sym q.is

pub act_unique : {act : Acted} {r r' : Result ActedOn Refusal} → Commands act r → Commands act r' → r ≡ r'
act_unique p q = p.is ∙ sym q.is
