use Rattle.std.proofs.Common.{arith}
use Rattle.em_list_tests.proofs.Rooms.{full_by_room}
use Rattle.em_list_tests.proofs.room_queue.RoomQueueQueue.push.Goals as goal

pub returns-clause-full : goal.returns-clause-full
returns-clause-full g c =
    let k = c.push.ensures.serves.k in
    full_by_room c.push.result c.requires.sound c.requires.is (omega (arith, k)) c.push.ensures.full
