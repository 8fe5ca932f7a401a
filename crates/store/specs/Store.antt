-- What changes of a state from call to call. Assumes nothing.
use Rattle.std.specs.Prelude.{ℕ, List, replicate}
use Rattle.fill.specs.Fills.{empty_fill}
use Rattle.fill.specs.declared.Fill.{Fill}
use Rattle.summary.specs.Summaries.{empty_summary}
use Rattle.summary.specs.declared.Summary.{Summary}
use Rattle.run.specs.declared.Phase.{Phase}
use Rattle.run.specs.declared.Phase.TheVariants.{Idle}
use Rattle.store.specs.declared.Store.{Store}

-- 0 and none beside every slot
abbrev pub empty_summaries : List Summary
empty_summaries = replicate 8 empty_summary

-- a store of slots 0 to n, all white, with no run and no fill
abbrev pub new_store : (n : ℕ) → Store
new_store n = record { slots = n; phase = Idle; fill = empty_fill; summaries = empty_summaries }

-- a store with another phase, with another fill, and with other summaries
abbrev pub set_phase : Store → Phase → Store
set_phase store phase = record { slots = store.slots; phase = phase; fill = store.fill; summaries = store.summaries }

abbrev pub set_fill : Store → Fill → Store
set_fill store fill = record { slots = store.slots; phase = store.phase; fill = fill; summaries = store.summaries }

abbrev pub set_summaries : Store → List Summary → Store
set_summaries store summaries = record { slots = store.slots; phase = store.phase; fill = store.fill; summaries = summaries }
