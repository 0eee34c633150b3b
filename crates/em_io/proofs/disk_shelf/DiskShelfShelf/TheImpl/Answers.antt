-- It tells no texts, so that what a shelf says of those that it tells is given.
use Rattle.em_io.proofs.disk_shelf.DiskShelfShelf.TheImpl.Goals as goal

pub open-tells : goal.open-tells
open-tells g c = record {
  leaves = c.ensures.leaves;
  opened = c.ensures.opened;
  ready = c.ensures.ready;
  lost = λ t. cc;
  whole = λ t. cc;
  cause = c.ensures.cause;
}

pub read-tells : goal.read-tells
read-tells g c = record {
  leaves = c.ensures.stays.leaves;
  opened = c.ensures.stays.opened;
  ready = c.ensures.stays.ready;
  within = c.ensures.stays.within;
  bytes = λ t. cc;
  end = λ t. cc;
  failed = λ t. cc;
  cause = c.ensures.cause;
}
