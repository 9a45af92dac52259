-- `why_pass::of_cause` meets its contract: by the variant. Assumes nothing.
use native.Mathlib.Omega.{arith}
use Rattle.calls.specs.Causes.{Within}
use Rattle.calls.proofs.notes.Told.{few_listed}
use Rattle.calls.proofs.why_pass.Words.{within_crowded, within_root, within_claimed, within_placeless, why_crowded, why_root, why_claimed, why_placeless}
use Rattle.calls.proofs.why_pass.of_cause.Goals as goal

pub named_twice-requires : goal.named_twice-requires
unfolding Within
named_twice-requires c =
    let p = c.requires in
    record { told = p.told; j_lt_named = omega (arith, rw c.in-NamedTwice.is at p.within, p.told.given.scoped.named) }

pub listed_id-x-requires : goal.listed_id-x-requires
listed_id-x-requires c =
    let p = c.requires in
    omega (arith, few_listed, within_crowded p.told p.within c.in-GraftOverChildren.is)

pub listed_id-x-requires-in-GraftOfRoot : goal.listed_id-x-requires-in-GraftOfRoot
listed_id-x-requires-in-GraftOfRoot c =
    let p = c.requires in
    omega (arith, few_listed, within_root p.told p.within c.in-GraftOfRoot.is)

pub claimed_twice-requires : goal.claimed_twice-requires
claimed_twice-requires c =
    let p = c.requires in
    let w = within_claimed p.told p.within c.in-ClaimedTwice.is in
    (omega (arith, few_listed, w.0), omega (arith, few_listed, w.1))

pub without_place-requires : goal.without_place-requires
without_place-requires c =
    let p = c.requires in
    omega (arith, few_listed, within_placeless p.told p.within c.in-WithoutPlace.is)

pub child_nowhere-requires : goal.child_nowhere-requires
unfolding Within
child_nowhere-requires c =
    let p = c.requires in
    record { told = p.told; j_lt_named = omega (arith, rw c.in-ChildNowhere.is at p.within, p.told.given.scoped.named) }

pub returns-in-NamedTwice : goal.returns-in-NamedTwice
returns-in-NamedTwice c = rw c.in-NamedTwice.is c.named_twice.ensures

pub returns-in-GraftOverChildren : goal.returns-in-GraftOverChildren
returns-in-GraftOverChildren c =
    let p = c.requires in
    let e = c.in-GraftOverChildren.is in
    rw e (why_crowded p.told (within_crowded p.told p.within e) c.listed_id-x.ensures c.of_nodes.ensures)

pub returns-in-GraftOfRoot : goal.returns-in-GraftOfRoot
returns-in-GraftOfRoot c =
    let p = c.requires in
    let e = c.in-GraftOfRoot.is in
    rw e (why_root p.told (within_root p.told p.within e) c.listed_id-x-in-GraftOfRoot.ensures c.of_nodes-in-GraftOfRoot.ensures)

pub returns-in-ClaimedTwice : goal.returns-in-ClaimedTwice
returns-in-ClaimedTwice c =
    let p = c.requires in
    let e = c.in-ClaimedTwice.is in
    let w = within_claimed p.told p.within e in
    rw e (why_claimed p.told w.0 w.1 c.claimed_twice.ensures)

pub returns-in-WithoutPlace : goal.returns-in-WithoutPlace
returns-in-WithoutPlace c =
    let p = c.requires in
    let e = c.in-WithoutPlace.is in
    rw e (why_placeless p.told (within_placeless p.told p.within e) c.without_place.ensures)

pub returns-in-ChildNowhere : goal.returns-in-ChildNowhere
returns-in-ChildNowhere c = rw c.in-ChildNowhere.is c.child_nowhere.ensures
