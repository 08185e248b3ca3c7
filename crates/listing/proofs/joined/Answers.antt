-- `listing::joined` meets its contract: the sum is the definition's. Assumes nothing.
use Rattle.listing.specs.Tokens.{byte_of}
use borrow.Author.Rules.{rules}
use Rattle.listing.proofs.joined.Goals as goal

pub returns : goal.returns
unfolding byte_of
returns c = search rules
