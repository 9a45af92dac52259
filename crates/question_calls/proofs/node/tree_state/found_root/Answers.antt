-- `node::tree_state::found_root` meets its contract: a law for each way out. Assumes nothing.
use Rattle.state_array.specs.View.{view}
use Rattle.node_answers.proofs.TreeState.{root_none, root_at}
use borrow.Author.Rules.{rules}
use Rattle.question_calls.proofs.node.tree_state.found_root.Goals as goal

pub enum_told-1 : goal.enum_told-1
enum_told-1 c = search rules

pub returns-in_default : goal.returns-in_default
returns-in_default c = root_none (view c.args.state.now).forest _ c.tree_of.ensures c.in_default.is

pub returns : goal.returns
returns c =
    root_at (view c.args.state.now).forest _ c.tree_of.ensures _ c.in-Some.is
