use Rattle.aig_forward.proofs.BitLists.{bit_unread, bit_refused, bit_done, bit_number}
use Rattle.aig_forward.proofs.line.add_bit.Goals as goal

pub returns-in-Err : goal.returns-in-Err
returns-in-Err g c = bit_unread c.requires _ _ c.step_stop.ensures c.in-Err.ensures.reads

pub returns-in-Ok-append : goal.returns-in-Ok-append
returns-in-Ok-append g c = bit_done c.requires c.in-Ok.bit c.in-Ok.ensures.reads c.append.ensures.frame
    c.append.ensures.goes _ c.in-Ok.ensures.further (bit_number c.in-Ok.bit) c.in-Ok-append.ensures.appends c.in-Ok-append.ensures.spends

pub returns-in-Err-append : goal.returns-in-Err-append
returns-in-Err-append g c = bit_refused c.requires _ c.in-Ok.ensures.reads c.append.ensures.frame
    c.append.ensures.goes _ c.in-Ok.ensures.further c.in-Err-append.ensures.spends c.in-Err-append.ensures.cause
