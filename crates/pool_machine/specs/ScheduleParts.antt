-- What a schedule shows, and what keeps of its fields.
use Rattle.std.specs.Prelude.{◌≡◌, ◌<◌, ◌≤◌, ◌^◌, take, vec_len}
use Rattle.std.specs.Option.{option_map}
use Rattle.std.specs.Duration.{as_nanos}
use Rattle.pool_machine.specs.declared.schedule.Schedule.TheInside.{Inside}
use Rattle.pool_machine.specs.Openings.{sorted}
use Rattle.pool_machine.specs.Heap.{IsHeap}
use Rattle.pool_machine.specs.Schedule.{SeenSchedule}

module _ {A : Type 0} where
  abbrev pub seen_schedule : Inside A → SeenSchedule
  seen_schedule s = record {
    max_size = s.max_size;
    reap_every = as_nanos s.reap_every;
    openings = sorted (take s.held s.entries.items);
    next_reap = option_map as_nanos s.next_reap;
  }

  -- the first so many entries are held, as a heap
  pub record IsHolding (s : Inside A) : Type 0 where
    pub filled : vec_len s.entries ≡ s.max_size
    pub within : s.held ≤ s.max_size
    pub small : s.max_size < 2 ^ 32
    pub heap : IsHeap (take s.held s.entries.items)
