-- §16, the hub listing: what it does with each token, and the lines that it prints.
use Rattle.std.specs.Prelude.{ℕ, Option}
use mathlib.Core.List.{List, [], ◌∷◌, flat_map}
use Rattle.words.specs.Machine.{Done}
use Rattle.framer.specs.declared.Event.{Event}
use Rattle.framer.specs.declared.Event.TheVariants as event
use Rattle.hub.specs.Joiner.{Output, added, repeated, handed, refused, answered}
use Rattle.hub.specs.Hub.{HubState, switched_on, hub_step}
use Rattle.listing.specs.Lines.{line_of, answer_line}
use Rattle.listing.specs.Listing.{Reading, skips, goes, stops}
use Rattle.listing.specs.Listing as listing
use Rattle.listing.specs.declared.Token.{Token}
use Rattle.listing.specs.declared.Token.TheVariants.{Nothing, Byte, CharacterGap, MessageGap, Sign, Lone}

-- `M`, the code type and the bytes of a message that is handed out; `A` and the bytes of an answer; nothing else has a line.
unfoldable pub output_line : Output → List ℕ
output_line added = []
output_line repeated = []
output_line (handed code bytes) = line_of 77 (code ∷ bytes)
output_line (refused r) = []
output_line (answered bytes) = answer_line bytes

-- An event on the line: the lines of what happens, in its order.
unfoldable pub happens : HubState → Event → Done (Reading HubState) ℕ
happens hub e = goes (hub_step hub e).next (flat_map output_line (hub_step hub e).told)

unfoldable pub acts : HubState → Option ℕ → Token → Done (Reading HubState) ℕ
acts hub waiting Nothing = skips hub waiting
acts hub waiting (Byte b) = happens hub (event.Byte b)
acts hub waiting CharacterGap = happens hub event.CharacterGap
acts hub waiting MessageGap = happens hub event.MessageGap
acts hub waiting (Sign c) = stops hub
acts hub waiting Lone = stops hub

-- All that is printed for a text.
unfoldable pub listing_of : List ℕ → List ℕ
listing_of text = listing.listing_of acts switched_on text
