-- `pass::number_of` meets its contract: by the variant. Assumes nothing.
use borrow.Author.Rules.{rules}
use Rattle.calls.specs.Causes.{cause_number}
use Rattle.calls.proofs.pass.number_of.Goals as goal

pub enum_told-1 : goal.enum_told-1
unfolding cause_number
enum_told-1 c = search rules

pub enum_told-in-GraftOverChildren : goal.enum_told-in-GraftOverChildren
unfolding cause_number
enum_told-in-GraftOverChildren c = search rules

pub enum_told-in-GraftOfRoot : goal.enum_told-in-GraftOfRoot
unfolding cause_number
enum_told-in-GraftOfRoot c = search rules

pub enum_told-in-ClaimedTwice : goal.enum_told-in-ClaimedTwice
unfolding cause_number
enum_told-in-ClaimedTwice c = search rules

pub enum_told-in-WithoutPlace : goal.enum_told-in-WithoutPlace
unfolding cause_number
enum_told-in-WithoutPlace c = search rules

pub enum_told-in-ChildNowhere : goal.enum_told-in-ChildNowhere
unfolding cause_number
enum_told-in-ChildNowhere c = search rules

pub returns-in-NamedTwice : goal.returns-in-NamedTwice
unfolding cause_number
returns-in-NamedTwice c = rw c.in-NamedTwice.is

pub returns-in-GraftOverChildren : goal.returns-in-GraftOverChildren
unfolding cause_number
returns-in-GraftOverChildren c = rw c.in-GraftOverChildren.is

pub returns-in-GraftOfRoot : goal.returns-in-GraftOfRoot
unfolding cause_number
returns-in-GraftOfRoot c = rw c.in-GraftOfRoot.is

pub returns-in-ClaimedTwice : goal.returns-in-ClaimedTwice
unfolding cause_number
returns-in-ClaimedTwice c = rw c.in-ClaimedTwice.is

pub returns-in-WithoutPlace : goal.returns-in-WithoutPlace
unfolding cause_number
returns-in-WithoutPlace c = rw c.in-WithoutPlace.is

pub returns-in-ChildNowhere : goal.returns-in-ChildNowhere
unfolding cause_number
returns-in-ChildNowhere c = rw c.in-ChildNowhere.is
