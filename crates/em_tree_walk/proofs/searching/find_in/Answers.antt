use Rattle.std.proofs.Common.{subst, Option, ℕ}
use Rattle.em_node.specs.Node.{entries_of}
use Rattle.em_tree_walk.specs.Searches.{IsFirstFrom}
use Rattle.em_tree_walk.proofs.Found.{finds_end, finds_place}
use Rattle.em_tree_walk.proofs.searching.find_in.Goals as goal

pub returns-in-Some : goal.returns-in-Some
returns-in-Some c =
    let P : Option ℕ → Type 0 =
    λ o. IsFirstFrom c.args.limit (entries_of c.args.frame.now) c.find-first.result o in
    finds_place _ _ _ c.find-first.result c.in-Some.at c.find-first.ensures
    (subst P c.in-Some.is c.first_place.ensures) c.found_at.ensures

pub returns-in-None : goal.returns-in-None
returns-in-None c =
    let P : Option ℕ → Type 0 =
    λ o. IsFirstFrom c.args.limit (entries_of c.args.frame.now) c.find-first.result o in
    finds_end c.args.limit _ _ _ _ c.find-first.result c.find-first.ensures
    (subst P c.in-None.is c.first_place.ensures) c.next_node.ensures
