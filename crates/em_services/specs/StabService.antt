-- An interval list as a service.
use Rattle.em_segment.specs.Stabs.{stab_account, stab_len}
use Rattle.em_segment.specs.declared.stab.Stab.{Stab}
use Rattle.em_services.specs.Service.{ServiceCounts}

-- its numbers as a service
abbrev pub stab_counts : Stab → ServiceCounts
stab_counts v = record {
  n = stab_len v;
  syncs = 0;
  spent = λ shape. (stab_account v).paid;
  unstored = (stab_account v).unstored;
}
