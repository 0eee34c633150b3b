-- Items that no queue may have twice.
use Rattle.std.proofs.Common.{◌≡◌, ℕ, ◌+◌, List, ◌++◌, sym, ◌∙◌, subst, arith, IsTrue, Option, option_to_list}
use Rattle.em_record.specs.Order.{Lacks, with_record}
use Rattle.em_record.specs.declared.record.Record.{Record}
use Rattle.em_record.proofs.Lacking.{lacks_right, lacks_with}
use Rattle.em_space.specs.Rig.{RigState}
use Rattle.em_plain.specs.ScanQueue.{LacksFrom, queue_items}
use Rattle.em_plain.specs.declared.scan_queue.ScanQueue.{ScanQueue}

pub lacks_next : (n : ℕ) (s t : RigState) (q p : ScanQueue) (y : Record) → LacksFrom n s q
    → y.b ≡ n → t.device.told ≡ s.device.told
    → (IsTrue s.device.told → queue_items t p ≡ with_record y (queue_items s q))
    → LacksFrom (n + 1) t p
lacks_next n s t q p y h e told items = record {
  is = λ z x more.
      let u = sym told ∙ z in
      subst (λ (xs : List Record). Lacks x xs) (sym (items u))
      (lacks_with x y (queue_items s q) (h.is u x (omega arith)) (λ a b. omega arith));
}

pub lacks_still : (n : ℕ) (s t : RigState) (q p : ScanQueue) (item : Option Record)
    → LacksFrom n s q → t.device.told ≡ s.device.told
    → (IsTrue s.device.told → queue_items s q ≡ option_to_list item ++ queue_items t p)
    → LacksFrom n t p
lacks_still n s t q p item h told items = record {
  is = λ z x more.
      let u = sym told ∙ z in
      lacks_right x (option_to_list item) (queue_items t p)
      (subst (λ (xs : List Record). Lacks x xs) (items u) (h.is u x more));
}
