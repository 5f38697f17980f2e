-- How the faults of a subscription are printed.
use Rattle.std.specs.Prelude.{ℕ, List, codes}
use Rattle.subscribers.specs.declared.subscribe_fault.SubscribeFault.{SubscribeFault}
use Rattle.subscribers.specs.declared.subscribe_fault.SubscribeFault.TheVariants as fault

abbrev pub fault_text : SubscribeFault → List ℕ
fault_text fault.NoMemory = codes "0 NoMemory"
fault_text fault.WatchFull = codes "19 WatchFull"
