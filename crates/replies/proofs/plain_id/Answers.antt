-- `replies::plain_id` meets its contract: by the variant. Assumes nothing.
use mathlib.Core.Path.{◌∙◌}
use borrow.Author.Rules.{rules}
use Rattle.replies.specs.Replies.{plain_id}
use Rattle.replies.proofs.plain_id.Goals as goal

pub enum_told-1 : goal.enum_told-1
enum_told-1 c = search rules

pub returns-in_default : goal.returns-in_default
returns-in_default c = c.no_id.ensures ∙ rw c.in_default.is

pub returns : goal.returns
unfolding plain_id
returns c = rw c.in-Some.is
