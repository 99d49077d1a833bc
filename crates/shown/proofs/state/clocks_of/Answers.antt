-- `shown::state::clocks_of` meets its contract.
use borrow.Author.Rules.{rules}
use Rattle.shown.proofs.StateLaws.{clocks_end}
use Rattle.shown.proofs.state.clocks_of.Goals as goal

pub returns : goal.returns
returns c = clocks_end c.args.v c.args.n _ (search rules) c.requires c.copy_from_slice.ensures.after
