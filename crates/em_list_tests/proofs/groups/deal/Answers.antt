use Rattle.std.proofs.Common.{◌≡◌, ℕ, ◌%◌, ◌∙◌, ap, get_or, length}
use Rattle.std.proofs.Math.Nat.{mod-lt}
use Rattle.em_frames.specs.Device.{zero_record}
use Rattle.em_list_tests.proofs.Dealt.{dealt_room, dealt_then}
use Rattle.em_list_tests.proofs.groups.deal.Goals as goal

pub append-requires-clause-room : goal.append-requires-clause-room
append-requires-clause-room g c =
    let i = c.loop-item.item-index in
    let n : ℕ = length c.args.group.now.words.items in
    let m : c.count.result ≡ n = c.count.ensures ∙ c.loop-item.invariant.len in
    let a : ℕ = (get_or c.args.items.now i zero_record).a in
    dealt_room n i (a % c.count.result) c.args.items.now c.loop-item.invariant c.requires.room
    c.loop-item-test.true c.requires.few (rw m (mod-lt a c.requires.some))

pub loop-item-preserved : goal.loop-item-preserved
loop-item-preserved g c =
    let i = c.loop-item.item-index in
    let n : ℕ = length c.args.group.now.words.items in
    let m : c.count.result ≡ n = c.count.ensures ∙ c.loop-item.invariant.len in
    let a : ℕ = (get_or c.args.items.now i zero_record).a in
    dealt_then n c.args.items.now i _ zero_record c.loop-item-test.true
    (ap (λ (k : ℕ). a % k) m) c.loop-item.invariant c.in_ok-append.ensures.appends
