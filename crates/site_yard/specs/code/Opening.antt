-- What an opening answers, and why a run failed that wasn't opened.
use Rattle.std.specs.Prelude.{◌≡◌, ℕ, zero, suc, ◌+◌, ◌≤◌, ◌<◌, true, cond, length, Option, None, Result, Ok, Err, IfSome}
use Rattle.values.specs.code.SiteMap.{IsEmptyAt}
use Rattle.outside.specs.declared.counts.Counts.{Counts}
use Rattle.outside.specs.declared.store.Store.{Store}
use Rattle.plan_core.specs.declared.plan.Plan.{Plan}
use Rattle.plan_core.specs.code.Names.{is_used}
use Rattle.plan_core.specs.Names.{pair_file_name, pair_site_name, site_name}
use Rattle.run_record.specs.declared.run_fault.RunFault.{RunFault}
use Rattle.run_record.specs.declared.run_fault.RunFault.TheVariants as run
use Rattle.site_yard.specs.code.Failures.{AreMore}
use Rattle.site_yard.specs.declared.opening.OpenFault.{OpenFault}
use Rattle.site_yard.specs.declared.opening.OpenFault.TheVariants.{ScratchInUse, HostFailed, Memory, PairAbsent, LengthDiffers}

-- a site that has a pair holds no file, where it is told; it holds one
abbrev pub IsUnusedAt : Plan → Option Store → ℕ → Type 0
IsUnusedAt p told x = is_used p x ≡ true → IfSome told (λ s. IsEmptyAt s.scratch (site_name p x))

abbrev pub IsInUse : Plan → Option Store → ℕ → Type 0
IsInUse p told x = (is_used p x ≡ true) × IfSome told (λ s. IsEmptyAt s.scratch (site_name p x) → ⊥)

-- how often a host is asked at a site: once, where the site has a pair; how often at the first so many
abbrev pub looks_at : Plan → ℕ → ℕ
looks_at p x = cond (is_used p x) 1 0

abbrev pub looks_below : Plan → ℕ → ℕ
looks_below p zero = 0
looks_below p (suc n) = looks_below p n + looks_at p n

abbrev pub looks : Plan → ℕ
looks p = looks_below p (length p.sites)

abbrev pub LookedAt : Plan → ℕ → Option Store → Counts → Counts → Result (Unit {0}) OpenFault → Type 0
LookedAt p x told before now (Ok u) = IsUnusedAt p told x × AreMore (looks_at p x) 0 0 before now
LookedAt p x told before now (Err (ScratchInUse y)) = (y.0 ≡ x) × IsInUse p told y.0
    × AreMore 0 0 1 before now
LookedAt p x told before now (Err HostFailed) = (is_used p x ≡ true) × AreMore 0 1 0 before now
LookedAt p x told before now (Err Memory) = AreMore 0 0 0 before now
LookedAt p x told before now (Err _) = ⊥

abbrev pub AreUnusedBelow : Plan → Option Store → ℕ → Type 0
AreUnusedBelow p told n = (x : ℕ) → x < n → IsUnusedAt p told x

abbrev pub AreUnused : Plan → Option Store → Type 0
AreUnused p told = AreUnusedBelow p told (length p.sites)

-- the sites before this one were looked at and found empty, and the look at it failed
pub record HasFailedAt (p : Plan) (told : Option Store) (before now : Counts) : Type 0 where
  pub site : ℕ
  pub below : site < length p.sites
  pub used : is_used p site ≡ true
  pub empty : AreUnusedBelow p told site
  pub asked : AreMore (looks_below p site) 1 0 before now

-- the sites before this one were looked at and found empty, and then memory was wanted
pub record HasWantedAt (p : Plan) (told : Option Store) (before now : Counts) : Type 0 where
  pub site : ℕ
  pub below : site ≤ length p.sites
  pub empty : AreUnusedBelow p told site
  pub asked : AreMore (looks_below p site) 0 0 before now

-- Why an opening is refused: the first site in use, a look that failed, or want of memory. Nothing else was asked.
abbrev pub Refuses : Plan → Option Store → Counts → Counts → OpenFault → Type 0
Refuses p told before now (ScratchInUse x) = (x.0 < length p.sites) × IsInUse p told x.0
    × AreUnusedBelow p told x.0 × AreMore (looks_below p x.0) 0 1 before now
Refuses p told before now HostFailed = HasFailedAt p told before now
Refuses p told before now Memory = HasWantedAt p told before now
Refuses p told before now _ = ⊥

abbrev pub Looked : Plan → Option Store → Counts → Counts → Result (Unit {0}) OpenFault → Type 0
Looked p told before now (Ok u) = AreUnused p told × AreMore (looks p) 0 0 before now
Looked p told before now (Err fault) = Refuses p told before now fault

-- the fault of a run that wasn't opened, with the names of a site or a pair
abbrev pub fault_of_opening : Plan → OpenFault → RunFault
fault_of_opening p (ScratchInUse x) = run.ScratchInUse (site_name p x.0)
fault_of_opening p (PairAbsent x) = run.PairAbsent (pair_site_name p x.0) (pair_file_name p x.0)
fault_of_opening p (LengthDiffers x recorded found) =
    run.LengthDiffers (pair_site_name p x.0) (pair_file_name p x.0) recorded found
fault_of_opening p HostFailed = run.HostFailed None
fault_of_opening p Memory = run.Memory
