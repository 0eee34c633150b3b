use Rattle.em_bulk.proofs.ListGiven.{gives_list}
use Rattle.em_bulk.proofs.builder.Builder.into_list.Goals as goal

pub returns : goal.returns
returns g c = gives_list c.abandon.ensures _ _ c.close-list.result c.close-list.ensures.closes
