-- What wakes the callers in line.
use Rattle.std.specs.Prelude.{◌≡◌, ◌≢◌, ◌<◌, ℕ, Bool, true, List, length, Option, Some, None, Vec, slice_index_or, IsSome}
use Rattle.futures.specs.Slot.{IsLeftIn}
use Rattle.futures.specs.WaitList.{WaitList, value_of, IsQueued, IsParkedAt}
use Rattle.futures.specs.declared.task.context.Context.{Context}
use Rattle.futures.specs.declared.task.waker.Waker.{Waker}
use Rattle.pool_state.specs.declared.line.place.Place.{Place}
use Rattle.pool_state.specs.Waiting.{told_at}

-- what wakes the caller at a slot, where it sleeps
abbrev pub waker_at : {A : Type 0} → Vec (Option Waker) A → ℕ → Option Waker
waker_at wakers slot = slice_index_or wakers.items slot None

-- each caller who was told to look is awake: nothing is left to wake it
abbrev pub AreAwake : {A : Type 0} → List Place → Vec (Option Waker) A → Type 0
AreAwake places wakers = (slot : ℕ) → told_at slot places ≡ true → waker_at wakers slot ≡ None

-- the task of this poll sleeps at its slot, where there is one: its own waker lies there, unless none could be made
abbrev pub SleepsAt : {A : Type 0} → Context → Context → Vec (Option Waker) A → ℕ → Type 0
SleepsAt old new wakers slot = slot < length wakers.items → IsLeftIn old new (waker_at wakers slot)

-- all but this one sleep on, or are awake, as before
abbrev pub KeepsOthers : {A : Type 0} → Option ℕ → Vec (Option Waker) A → Vec (Option Waker) A → Type 0
KeepsOthers own old new = (slot : ℕ) → own ≢ Some slot → waker_at new slot ≡ waker_at old slot

-- WHO WAITS BESIDE THE LINE

-- one has its place in the list, under this key
abbrev pub HasPlace : {T : Type 0} → WaitList T → ℕ → Type 0
HasPlace list key = IsSome (value_of list key)

-- the task of this poll sleeps there under its key, with this value, which says until when
abbrev pub SleepsUntil : {T : Type 0} → Context → Context → WaitList T → ℕ → T → Type 0
SleepsUntil old new list key until = IsParkedAt old new list key × (value_of list key ≡ Some until)

-- nobody in the list sleeps
abbrev pub NobodySleeps : {T : Type 0} → WaitList T → Type 0
NobodySleeps list = (key : ℕ) → ¬ IsQueued list key

-- no drain sleeps once nothing is lent
abbrev pub AreDrained : {T L : Type 0} → List L → WaitList T → Type 0
AreDrained lent drains = length lent ≡ 0 → NobodySleeps drains

-- in a closed pool nobody sleeps in line, nor among the workers
abbrev pub AreUpOnceClosed : {A T : Type 0} → Bool → Vec (Option Waker) A → WaitList T → Type 0
AreUpOnceClosed closed wakers workers =
    closed ≡ true → ((slot : ℕ) → waker_at wakers slot ≡ None) × NobodySleeps workers
