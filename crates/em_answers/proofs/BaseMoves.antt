-- The moves of a run over a service that took puts before the commands of its file.
use Rattle.std.specs.Prelude.{◌≡◌, ℕ, ◌+◌, ◌≤◌, List, [], ◌∷◌, ◌++◌, length, Option, Some, None, IfSome}
use Rattle.std.proofs.Common.{refl, ap, sym, subst, ◌∙◌, arith, append_assoc}
use Rattle.em_record.specs.Shape.{IsShape, ShapeNumbers}
use Rattle.em_model.specs.Sync.{since_sync, up_to_sync}
use Rattle.em_model.specs.declared.command.Command.{Command}
use Rattle.em_model.proofs.SyncLaws.{sync_parts}
use Rattle.em_space.specs.Rig.{RigState}
use Rattle.em_lines.specs.CommandLine.{good_commands}
use Rattle.em_lines.specs.RunSize.{commands_taken}
use Rattle.em_lines.specs.declared.text.FileKind.{FileKind}
use Rattle.em_map.specs.Areas.{KeepsAreas}
use Rattle.em_services.specs.Service.{RisesBySize, ServiceCounts, WithinAllowance, syncs_for}
use Rattle.em_answers.specs.Reading.{ArePuts, KeepsAllowance, StandsAlone, size_after}
use Rattle.em_answers.proofs.Base.{base_syncs}
use Rattle.em_answers.proofs.ServiceMoves.{all_reads, command_reads, given_reads}
use Rattle.em_answers.proofs.Sizes.{RisesByCommands}

-- a size that isn't less where commands are added, also after others
rises_after : (base : List Command) (size : ShapeNumbers → List Command → ℕ) → RisesByCommands size
    → RisesByCommands (size_after base size)
rises_after base size rises shape cs more =
    let all = rises shape (base ++ cs) more in
    let same = ap (λ (xs : List Command). size shape xs) (append_assoc base cs more) in
    omega (arith, all, same)

-- the numbers of a service but for the commands that it took before
abbrev since_base : ServiceCounts → List Command → ServiceCounts
since_base c taken = record c { n = length taken }

-- it is alone, whatever is said of its blocks
alone_moves : (allowance room : Option (ShapeNumbers → ℕ → ℕ)) {size : ℕ} (held : List ℕ) (c : ServiceCounts) (s : RigState)
    (taken : List Command) → StandsAlone allowance room size held c s
    → StandsAlone allowance None size held (since_base c taken) s
alone_moves allowance room held c s taken a = record {
  paid = a.paid;
  used = λ told. tt;
  most = λ told. tt;
  moved = a.moved;
  within = a.within;
}

module _ (base : List Command) (puts : ArePuts base) (k : FileKind) where
  -- as many commands as there are
  counted : (taken : List Command) → length taken ≡ length (up_to_sync taken ++ since_sync taken)
  counted taken = ap (λ (cs : List Command). length cs) (sym (sync_parts taken))

  -- no sync came before
  syncs_since : (syncs : ℕ) (taken : List Command)
      → syncs ≤ syncs_for k (up_to_sync (base ++ taken) ++ since_sync (base ++ taken))
      → syncs ≤ syncs_for k (up_to_sync taken ++ since_sync taken)
  syncs_since syncs taken few =
      let all = ap (syncs_for k) (sync_parts (base ++ taken)) in
      let own = ap (syncs_for k) (sync_parts taken) in
      let none = base_syncs k base taken puts in
      omega (arith, few, all, own, none)

  module _ (allowance room : Option (ShapeNumbers → ℕ → ℕ)) (size : ShapeNumbers → List Command → ℕ)
      (rising : IfSome allowance RisesBySize) (rises : RisesByCommands size) (text left : List ℕ) where
    -- All moves up to now,
    pub given_over : {own after : ℕ} (first held : List ℕ) (c : ServiceCounts) (s t : RigState) (taken rest : List Command)
        → KeepsAreas own after first s t → StandsAlone allowance room (size s.pool.shape (base ++ taken)) held c t
        → good_commands k text ≡ taken ++ rest
        → c.syncs ≤ syncs_for k (up_to_sync (base ++ taken) ++ since_sync (base ++ taken))
        → length taken ≤ commands_taken k text left
        → KeepsAllowance allowance (size_after base size) k text left s t
    given_over first held c s t taken rest goes a good few most =
        given_reads allowance None (size_after base size) k text left first held (since_base c taken) s t taken rest rising
        (rises_after base size rises) goes (alone_moves allowance room held c t taken a) good (counted taken)
        (syncs_since c.syncs taken few) most

    -- up to the end of the next command,
    pub command_over : {own after sized : ℕ} (now : ShapeNumbers → List Command → ℕ) (first held : List ℕ) (c : ServiceCounts)
        (s t u : RigState) (taken : List Command) (d : Command) (rest : List Command) → now ≡ size
        → KeepsAreas own after first s t → StandsAlone allowance room sized held c t
        → good_commands k text ≡ taken ++ d ∷ rest
        → c.syncs ≤ syncs_for k (up_to_sync (base ++ taken) ++ since_sync (base ++ taken))
        → length taken + 1 ≤ commands_taken k text left
        → WithinAllowance allowance (now t.pool.shape ((base ++ taken) ++ d ∷ [])) (c.syncs + syncs_for k (d ∷ [])) c.spent t u
        → KeepsAllowance allowance (size_after base size) k text left s u
    command_over now first held c s t u taken d rest same goes a good few most w =
        let P : List Command → Type 0 = λ cs.
        WithinAllowance allowance (now t.pool.shape cs) (c.syncs + syncs_for k (d ∷ [])) c.spent t u in
        command_reads allowance None (size_after base size) (size_after base now) k text left first held (since_base c taken)
        s t u taken d rest rising (rises_after base size rises)
        (ap (λ (f : ShapeNumbers → List Command → ℕ). size_after base f) same) goes
        (alone_moves allowance room held c t taken a) good (counted taken) (syncs_since c.syncs taken few) most
        (subst P (append_assoc base taken (d ∷ [])) w)

    -- and, where they are all, up to the end of the call that gives the answers.
    pub all_over : {sized : ℕ} (now : ShapeNumbers → List Command → ℕ) (held : List ℕ) (c : ServiceCounts) (s t u : RigState)
        → now ≡ size → IsShape t.pool.shape → t.device.told ≡ s.device.told → t.pool.shape ≡ s.pool.shape
        → StandsAlone allowance room sized held c t
        → WithinAllowance allowance (now t.pool.shape (up_to_sync (base ++ good_commands k text)
        ++ since_sync (base ++ good_commands k text))) c.syncs c.spent t u
        → length (good_commands k text) ≤ commands_taken k text left
        → c.syncs ≤ syncs_for k (up_to_sync (base ++ good_commands k text) ++ since_sync (base ++ good_commands k text))
        → KeepsAllowance allowance (size_after base size) k text left s u
    all_over now held c s t u same is told shape a w most few =
        let good = good_commands k text in
        let P : List Command → Type 0 = λ cs. WithinAllowance allowance (now t.pool.shape cs) c.syncs c.spent t u in
        let parts : up_to_sync (base ++ good) ++ since_sync (base ++ good) ≡ base ++ (up_to_sync good ++ since_sync good) =
        sync_parts (base ++ good) ∙ ap (λ (cs : List Command). base ++ cs) (sym (sync_parts good)) in
        all_reads allowance None (size_after base size) (size_after base now) k text left held (since_base c good) s t u rising
        (ap (λ (f : ShapeNumbers → List Command → ℕ). size_after base f) same) is told shape
        (alone_moves allowance room held c t good a) (subst P parts w) most (counted good) (syncs_since c.syncs good few)
