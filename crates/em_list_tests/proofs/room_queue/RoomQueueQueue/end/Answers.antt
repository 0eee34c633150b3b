use Rattle.em_list_tests.proofs.Rooms.{ends_by_room, never_full}
use Rattle.em_list_tests.proofs.room_queue.RoomQueueQueue.end.Goals as goal

pub returns-clause-ends : goal.returns-clause-ends
returns-clause-ends g c = ends_by_room c.requires.is.rest.most_most c.end.ensures.ends

pub returns-clause-full : goal.returns-clause-full
returns-clause-full g c = never_full _ c.end.result c.end.ensures.full
