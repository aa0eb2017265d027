-- Worked rows: what lists of steps answer, and what they leave, computed from the definitions. A row's name says what it shows.
use Rattle.std.proofs.Common.{◌≡◌, ℕ, zero, suc, ◌*◌, ◌/◌, ◌%◌, min, true, false, List, [], ◌∷◌, ◌++◌, length, replicate, Option, Some, None, option_map, Ok}
use Rattle.std.proofs.Common.{Err, String, string_bytes, Global, refl}
use Rattle.std.specs.declared.time.Duration.{Duration}
use Rattle.pool_machine.specs.declared.step.Step.{Step}
use Rattle.pool_machine.specs.declared.step.Step.TheVariants as step
use Rattle.pool_machine.specs.declared.machine.answers.Refusal.TheVariants as refusal
use Rattle.pool_machine.specs.declared.schedule.limits.LimitSettings.{LimitSettings}
use Rattle.pool_machine.specs.Limits.{settings, delay_of}
use Rattle.pool_machine.specs.Openings.{opening, is_before}
use Rattle.pool_machine.specs.Jobs.{Open, Reap, Wait, Nothing, Closed as JobClosed}
use Rattle.pool_machine.specs.Connections.{SeenReleased, lent_connection, is_expired, is_kept, released_at}
use Rattle.pool_machine.specs.Seen.{SeenAnswer, Taken, Found, Empty, Begun, Numbered, Admitted, Failed, CheckFailed, PutBack, Kept, Closed, Reaped, TakeError, Close}
use Rattle.r2d2_core.specs.History.{History, Made, now_of}
use Rattle.r2d2_core.specs.Deeds.{connections_of, idle_of, lent_of}
use Rattle.r2d2_core.specs.Pending.{pending_of, in_work_of, in_work_at, numbered_of, next_reap_of, next_id_of, on_order_of}
use Rattle.r2d2_core.specs.Answers.{answers_of, after_all, orders_of, picture_of}

-- LIMITS: moments and lengths of time are in milliseconds here

abbrev ms : ℕ → Duration
ms n = record { secs = n / 1000; nanos = n % 1000 * 1_000_000 }

abbrev longest : Duration
longest = record { secs = 18_446_744_073_709_551_615; nanos = 999_999_999 }

abbrev limits : ℕ → Option ℕ → Option ℕ → Option ℕ → ℕ → ℕ → LimitSettings
limits size least life idle timeout every = settings size least (option_map ms life) (option_map ms idle) (ms timeout) (ms every)

-- a size alone
abbrev sized : ℕ → LimitSettings
sized n = limits n None None None 30_000 30_000

-- STEPS: a `want` is a take that orders on a miss, a `broken` a return of a broken one, a `bad` a failed check

abbrev take : ℕ → Step ℕ
take t = step.Take (ms t) false

abbrev want : ℕ → Step ℕ
want t = step.Take (ms t) true

abbrev begin : ℕ → Step ℕ
begin t = step.Begin (ms t)

abbrev number : ℕ → Step ℕ
number tries = step.Number tries

abbrev admit : ℕ → ℕ → ℕ → Step ℕ
admit t id value = step.Admit (ms t) id value

abbrev fail : ℕ → ℕ → Step ℕ
fail t tries = step.Fail (ms t) tries None

abbrev fail_by : ℕ → ℕ → String Global → Step ℕ
fail_by t tries text = step.Fail (ms t) tries (Some text)

abbrev bad : ℕ → ℕ → Step ℕ
bad t id = step.FailCheck (ms t) id None

abbrev bad_by : ℕ → ℕ → String Global → Step ℕ
bad_by t id text = step.FailCheck (ms t) id (Some text)

abbrev return : ℕ → ℕ → ℕ → Step ℕ
return t id value = step.PutBack (ms t) id value false

abbrev broken : ℕ → ℕ → ℕ → Step ℕ
broken t id value = step.PutBack (ms t) id value true

abbrev reap : ℕ → Step ℕ
reap t = step.Reap (ms t)

-- ANSWERS

abbrev taken : ℕ → ℕ → ℕ → ℕ → SeenAnswer ℕ
taken id birth value ordered = Taken (Found id (birth * 1_000_000) value ordered)

abbrev empty : ℕ → SeenAnswer ℕ
empty ordered = Taken (Empty ordered)

abbrev opens : ℕ → SeenAnswer ℕ
opens tries = Begun (Open tries)

abbrev reaps : SeenAnswer ℕ
reaps = Begun Reap

abbrev waits : ℕ → SeenAnswer ℕ
waits t = Begun (Wait (t * 1_000_000))

abbrev numbered : ℕ → SeenAnswer ℕ
numbered id = Numbered (Ok id)

abbrev admitted : SeenAnswer ℕ
admitted = Admitted (Ok tt)

abbrev retry : ℕ → SeenAnswer ℕ
retry t = Failed (Ok (t * 1_000_000))

abbrev lost : ℕ → ℕ → SeenAnswer ℕ
lost age ordered = CheckFailed (Ok (record { age = age * 1_000_000; ordered = ordered }))

abbrev kept : SeenAnswer ℕ
kept = PutBack (Ok Kept)

abbrev closed : ℕ → ℕ → ℕ → SeenAnswer ℕ
closed value age ordered = PutBack (Ok (Closed value (age * 1_000_000) ordered))

abbrev not_lent : ℕ → SeenAnswer ℕ
not_lent value = PutBack (Err (refusal.NotLent, value))

abbrev gone : ℕ → ℕ → ℕ → SeenReleased ℕ
gone id age value = record { id = id; age = age * 1_000_000; value = value }

abbrev told : String Global → SeenAnswer ℕ
told text = TakeError (Some (string_bytes text))

-- HISTORIES: of a new core, and of one with one or two idle connections, whose values are 70 and 71

abbrev new : LimitSettings → History ℕ
new limits = Made limits 0 0

abbrev opened_one : LimitSettings → History ℕ
opened_one limits = after_all (new limits) (begin 0 ∷ number 0 ∷ admit 0 0 70 ∷ [])

abbrev opened_two : LimitSettings → History ℕ
opened_two limits = after_all (new limits) (begin 0 ∷ begin 0 ∷ number 0 ∷ number 0 ∷ admit 0 0 70 ∷ admit 0 1 71 ∷ [])

-- how many are connected, idle and pending in the end, and the answers
abbrev ends : ℕ → ℕ → ℕ → List (SeenAnswer ℕ) → ℕ × ℕ × ℕ × List (SeenAnswer ℕ)
ends connections idle pending replies = (connections, idle, pending, replies)

abbrev run : History ℕ → List (Step ℕ) → ℕ × ℕ × ℕ × List (SeenAnswer ℕ)
run h steps = let end = after_all h steps in ends (connections_of end) (length (idle_of end)) (pending_of end) (answers_of h steps)

-- MAKING AND OPENING

wanted_is_the_size_or_the_least : pending_of (new (sized 3)) ∷ pending_of (new (limits 10 (Some 2) None None 30_000 30_000)) ∷ []
    ≡ 3 ∷ 2 ∷ []
unfolding pending_of
wanted_is_the_size_or_the_least = refl

opens_and_lends : run (new (sized 1)) (begin 0 ∷ number 0 ∷ admit 0 0 7 ∷ take 5 ∷ want 6 ∷ [])
    ≡ ends 1 0 0 (opens 0 ∷ numbered 0 ∷ admitted ∷ taken 0 0 7 0 ∷ empty 0 ∷ [])
unfolding connections_of idle_of lent_of pending_of in_work_of in_work_at numbered_of next_reap_of next_id_of orders_of is_before is_expired is_kept released_at
opens_and_lends = refl

opens_two : run (new (sized 2)) (begin 0 ∷ begin 0 ∷ number 0 ∷ number 0 ∷ admit 0 0 70 ∷ admit 0 1 71 ∷ [])
    ≡ ends 2 2 0 (opens 0 ∷ opens 0 ∷ numbered 0 ∷ numbered 1 ∷ admitted ∷ admitted ∷ [])
unfolding connections_of idle_of lent_of pending_of in_work_of in_work_at numbered_of next_reap_of next_id_of orders_of is_before is_expired is_kept released_at
opens_two = refl

none_is_wanted : run (new (limits 5 (Some 0) None None 30_000 30_000)) (begin 0 ∷ take 0 ∷ want 0 ∷ begin 0 ∷ [])
    ≡ ends 0 0 1 (Begun Nothing ∷ empty 0 ∷ empty 1 ∷ opens 0 ∷ [])
unfolding connections_of idle_of lent_of pending_of in_work_of in_work_at numbered_of next_reap_of next_id_of orders_of is_before is_expired is_kept released_at
none_is_wanted = refl

-- TAKING AND RETURNING

newest_first : run (opened_two (sized 2)) (take 2 ∷ take 3 ∷ return 4 1 71 ∷ return 5 0 70 ∷ take 6 ∷ [])
    ≡ ends 2 1 0 (taken 1 0 71 0 ∷ taken 0 0 70 0 ∷ kept ∷ kept ∷ taken 0 0 70 0 ∷ [])
unfolding connections_of idle_of lent_of pending_of in_work_of in_work_at numbered_of next_reap_of next_id_of orders_of is_before is_expired is_kept released_at
newest_first = refl

lent_in_the_order_of_the_takes : lent_of (after_all (opened_two (sized 2)) (take 2 ∷ take 3 ∷ return 4 1 71 ∷ take 5 ∷ []))
    ≡ lent_connection 0 0 ∷ lent_connection 1 0 ∷ []
unfolding connections_of idle_of lent_of pending_of in_work_of in_work_at numbered_of next_reap_of next_id_of orders_of is_before is_expired is_kept released_at
lent_in_the_order_of_the_takes = refl

the_value_that_came_back : run (opened_one (sized 1)) (take 1 ∷ return 2 0 99 ∷ take 3 ∷ [])
    ≡ ends 1 0 0 (taken 0 0 70 0 ∷ kept ∷ taken 0 0 99 0 ∷ [])
unfolding connections_of idle_of lent_of pending_of in_work_of in_work_at numbered_of next_reap_of next_id_of orders_of is_before is_expired is_kept released_at
the_value_that_came_back = refl

a_kept_return_orders_nothing : run (opened_two (limits 10 (Some 2) None None 30_000 30_000)) (take 1 ∷ take 2 ∷ return 3 0 70 ∷ [])
    ≡ ends 2 1 3 (taken 1 0 71 1 ∷ taken 0 0 70 2 ∷ kept ∷ [])
unfolding connections_of idle_of lent_of pending_of in_work_of in_work_at numbered_of next_reap_of next_id_of orders_of is_before is_expired is_kept released_at
a_kept_return_orders_nothing = refl

a_lifetime_is_reached_exactly : run (opened_two (limits 2 None (Some 1000) None 30_000 30_000)) (take 5 ∷ take 6 ∷ return 999 0 70 ∷ return 1000 1 71 ∷ [])
    ≡ ends 1 1 1 (taken 1 0 71 0 ∷ taken 0 0 70 0 ∷ kept ∷ closed 71 1000 1 ∷ [])
unfolding connections_of idle_of lent_of pending_of in_work_of in_work_at numbered_of next_reap_of next_id_of orders_of is_before is_expired is_kept released_at
a_lifetime_is_reached_exactly = refl

broken_is_closed_once : run (opened_one (sized 1)) (take 1 ∷ broken 2 0 7 ∷ broken 3 0 7 ∷ bad 3 0 ∷ [])
    ≡ ends 0 0 1 (taken 0 0 70 0 ∷ closed 7 2 1 ∷ not_lent 7 ∷ CheckFailed (Err refusal.NotLent) ∷ [])
unfolding connections_of idle_of lent_of pending_of in_work_of in_work_at numbered_of next_reap_of next_id_of orders_of is_before is_expired is_kept released_at
broken_is_closed_once = refl

-- ORDERS

pending_is_not_subtracted : run (new (limits 10 (Some 2) None (Some 1000) 30_000 30_000)) (reap 0 ∷ [])
    ≡ ends 0 0 4 (Reaped [] 2 ∷ [])
unfolding connections_of idle_of lent_of pending_of in_work_of in_work_at numbered_of next_reap_of next_id_of orders_of is_before is_expired is_kept released_at
pending_is_not_subtracted = refl

orders_stay_within_the_room : run (opened_two (limits 4 (Some 2) None None 30_000 30_000)) (take 1 ∷ take 2 ∷ want 3 ∷ [])
    ≡ ends 2 0 2 (taken 1 0 71 1 ∷ taken 0 0 70 1 ∷ empty 0 ∷ [])
unfolding connections_of idle_of lent_of pending_of in_work_of in_work_at numbered_of next_reap_of next_id_of orders_of is_before is_expired is_kept released_at
orders_stay_within_the_room = refl

a_failed_check_orders : run (opened_two (sized 2)) (take 1 ∷ bad 2 1 ∷ []) ≡ ends 1 1 1 (taken 1 0 71 0 ∷ lost 2 1 ∷ [])
unfolding connections_of idle_of lent_of pending_of in_work_of in_work_at numbered_of next_reap_of next_id_of orders_of is_before is_expired is_kept released_at
a_failed_check_orders = refl

-- REAPS

reaped_oldest_first : run (opened_two (limits 10 (Some 2) None (Some 1000) 30_000 30_000)) (reap 1000 ∷ [])
    ≡ ends 0 0 2 (Reaped (gone 0 1000 70 ∷ gone 1 1000 71 ∷ []) 2 ∷ [])
unfolding connections_of idle_of lent_of pending_of in_work_of in_work_at numbered_of next_reap_of next_id_of orders_of is_before is_expired is_kept released_at
reaped_oldest_first = refl

an_idle_time_is_reached_exactly : run (opened_one (limits 1 None None (Some 1000) 30_000 30_000)) (reap 999 ∷ reap 1000 ∷ [])
    ≡ ends 0 0 1 (Reaped [] 0 ∷ Reaped (gone 0 1000 70 ∷ []) 1 ∷ [])
unfolding connections_of idle_of lent_of pending_of in_work_of in_work_at numbered_of next_reap_of next_id_of orders_of is_before is_expired is_kept released_at
an_idle_time_is_reached_exactly = refl

each_limit_closes : run (opened_one (limits 3 (Some 1) (Some 2000) (Some 1000) 30_000 30_000)) (take 0 ∷ begin 0 ∷ number 0 ∷ admit 500 1 71 ∷ return 1500 0 70
    ∷ reap 1500 ∷ reap 2000 ∷ [])
    ≡ ends 0 0 1 (taken 0 0 70 1 ∷ opens 0 ∷ numbered 1 ∷ admitted ∷ kept ∷ Reaped (gone 1 1000 71 ∷ []) 0 ∷ Reaped (gone 0 2000 70 ∷ []) 1 ∷ [])
unfolding connections_of idle_of lent_of pending_of in_work_of in_work_at numbered_of next_reap_of next_id_of orders_of is_before is_expired is_kept released_at
each_limit_closes = refl

nothing_expires_without_limits : run (opened_one (limits 3 (Some 1) None None 30_000 30_000)) (reap 900_000 ∷ [])
    ≡ ends 1 1 0 (Reaped [] 0 ∷ [])
unfolding connections_of idle_of lent_of pending_of in_work_of in_work_at numbered_of next_reap_of next_id_of orders_of is_before is_expired is_kept released_at
nothing_expires_without_limits = refl

-- BEGINNING: delays of failed openings, and when reaps are due

delays_double : run (new (sized 1)) (begin 0 ∷ fail 0 0 ∷ begin 399 ∷ begin 400 ∷ fail 400 1 ∷ begin 1200 ∷ fail 1200 2 ∷ begin 2800 ∷ fail 2800 3 ∷ begin 6000
    ∷ fail 6000 4 ∷ begin 12_400 ∷ fail 12_400 5 ∷ begin 25_200 ∷ fail 25_200 6 ∷ [])
    ≡ ends 0 0 1 (opens 0 ∷ retry 400 ∷ waits 400 ∷ opens 1 ∷ retry 1200 ∷ opens 2 ∷ retry 2800 ∷ opens 3 ∷ retry 6000 ∷ opens 4 ∷ retry 12_400 ∷ opens 5
    ∷ retry 25_200 ∷ opens 6 ∷ retry 40_200 ∷ [])
unfolding connections_of idle_of lent_of pending_of in_work_of in_work_at numbered_of next_reap_of next_id_of orders_of is_before is_expired is_kept released_at
delays_double = refl

delays_are_at_most_half_the_timeout : run (new (limits 1 None None None 1000 30_000)) (begin 0 ∷ fail 0 0 ∷ begin 400 ∷ fail 400 1 ∷ begin 900 ∷ fail 900 2 ∷
    [])
    ≡ ends 0 0 1 (opens 0 ∷ retry 400 ∷ opens 1 ∷ retry 900 ∷ opens 2 ∷ retry 1400 ∷ [])
unfolding connections_of idle_of lent_of pending_of in_work_of in_work_at numbered_of next_reap_of next_id_of orders_of is_before is_expired is_kept released_at
delays_are_at_most_half_the_timeout = refl

half_a_millisecond : run (new (limits 1 None None None 1 30_000)) (begin 0 ∷ fail 0 0 ∷ begin 0 ∷ begin 1 ∷ [])
    ≡ ends 0 0 1 (opens 0 ∷ Failed (Ok 500_000) ∷ Begun (Wait 500_000) ∷ opens 1 ∷ [])
unfolding connections_of idle_of lent_of pending_of in_work_of in_work_at numbered_of next_reap_of next_id_of orders_of is_before is_expired is_kept released_at
half_a_millisecond = refl

the_least_and_the_greatest_delays : delay_of (sized 1) 0 ∷ delay_of (settings 1 None None None (record { secs = 0; nanos = 1 }) (ms 1)) 1
    ∷ delay_of (settings 1 None None None longest longest) 65 ∷ delay_of (settings 1 None None None longest longest) 66 ∷ []
    ≡ 200_000_000 ∷ 0 ∷ 7_378_697_629_483_820_646_400_000_000 ∷ 9_223_372_036_854_775_807_999_999_999 ∷ []
the_least_and_the_greatest_delays = refl

-- so many failures at the greatest moment
abbrev failing : ℕ → List (Step ℕ)
failing zero = []
failing (suc n) = failing n ++ step.Begin longest ∷ step.Fail longest (min n 99) None ∷ []

tries_stay_at_ninety_nine : answers_of (after_all (new (sized 1)) (failing 101)) (step.Begin longest ∷ []) ≡ opens 99 ∷ []
unfolding connections_of idle_of lent_of pending_of in_work_of in_work_at numbered_of next_reap_of next_id_of orders_of is_before is_expired is_kept released_at
tries_stay_at_ninety_nine = refl

equal_due_moments : run (new (limits 3 (Some 0) None None 1000 30_000)) (want 0 ∷ want 0 ∷ begin 0 ∷ fail 0 0 ∷ want 400 ∷ begin 400 ∷ begin 400 ∷ begin 400
    ∷ fail 400 0 ∷ fail 400 0 ∷ fail 400 1 ∷ fail 400 2 ∷ begin 400 ∷ [])
    ≡ ends 0 0 3 (empty 1 ∷ empty 1 ∷ opens 0 ∷ retry 400 ∷ empty 1 ∷ opens 0 ∷ opens 0 ∷ opens 1 ∷ retry 800 ∷ retry 800 ∷ retry 900
    ∷ Failed (Err refusal.NoOpening) ∷ waits 800 ∷ [])
unfolding connections_of idle_of lent_of pending_of in_work_of in_work_at numbered_of next_reap_of next_id_of orders_of is_before is_expired is_kept released_at
equal_due_moments = refl

an_opening_before_a_reap_and_no_reap_is_missed : run (new (limits 1 None None (Some 1000) 30_000 400)) (begin 0 ∷ fail 0 0 ∷ begin 400 ∷ begin 400 ∷ begin 400
    ∷ begin 1200 ∷ begin 1200 ∷ begin 1200 ∷ [])
    ≡ ends 0 0 1 (opens 0 ∷ retry 400 ∷ opens 1 ∷ reaps ∷ waits 800 ∷ reaps ∷ reaps ∷ waits 1600 ∷ [])
unfolding connections_of idle_of lent_of pending_of in_work_of in_work_at numbered_of next_reap_of next_id_of orders_of is_before is_expired is_kept released_at
an_opening_before_a_reap_and_no_reap_is_missed = refl

an_earlier_reap_before_a_later_opening : run (new (limits 1 None None (Some 1000) 30_000 300)) (begin 0 ∷ fail 0 0 ∷ begin 400 ∷ begin 400 ∷ begin 400 ∷ [])
    ≡ ends 0 0 1 (opens 0 ∷ retry 400 ∷ reaps ∷ opens 1 ∷ waits 600 ∷ [])
unfolding connections_of idle_of lent_of pending_of in_work_of in_work_at numbered_of next_reap_of next_id_of orders_of is_before is_expired is_kept released_at
an_earlier_reap_before_a_later_opening = refl

-- MOMENTS

moments_never_fall : run (opened_one (limits 1 None None (Some 1000) 30_000 60_000)) (take 10 ∷ return 9000 4 1 ∷ reap 5000 ∷ return 10 0 70 ∷ reap 5999 ∷ reap
    6000 ∷ [])
    ≡ ends 0 0 1 (taken 0 0 70 0 ∷ not_lent 1 ∷ Reaped [] 0 ∷ kept ∷ Reaped [] 0 ∷ Reaped (gone 0 6000 70 ∷ []) 1 ∷ [])
unfolding connections_of idle_of lent_of pending_of in_work_of in_work_at numbered_of next_reap_of next_id_of orders_of is_before is_expired is_kept released_at
moments_never_fall = refl

refused_steps_make_nothing_older : run (new (sized 2)) (begin 0 ∷ begin 0 ∷ fail 9000 3 ∷ fail 0 0 ∷ number 0 ∷ admit 9000 5 1 ∷ admit 5 0 7 ∷ take 6
    ∷ broken 9000 4 7 ∷ bad 9000 4 ∷ broken 7 0 7 ∷ [])
    ≡ ends 0 0 2 (opens 0 ∷ opens 0 ∷ Failed (Err refusal.NoOpening) ∷ retry 400 ∷ numbered 0 ∷ Admitted
    (Err (refusal.NotNumbered, 1)) ∷ admitted ∷ taken 0 5 7 0
    ∷ not_lent 7 ∷ CheckFailed (Err refusal.NotLent) ∷ closed 7 2 1 ∷ [])
unfolding connections_of idle_of lent_of pending_of in_work_of in_work_at numbered_of next_reap_of next_id_of orders_of is_before is_expired is_kept released_at
refused_steps_make_nothing_older = refl

refused_moments_do_not_count : now_of (after_all (opened_one (sized 1)) (admit 9000 5 1 ∷ fail 9000 0 ∷ bad 9000 0 ∷ broken 9000 0 1 ∷ take 5 ∷ return 9000 4 1
    ∷ take 3 ∷ []))
    ≡ 5_000_000
unfolding connections_of idle_of lent_of pending_of in_work_of in_work_at numbered_of next_reap_of next_id_of orders_of is_before is_expired is_kept released_at
refused_moments_do_not_count = refl

every_begin_counts : now_of (after_all (new (sized 1)) (begin 0 ∷ begin 7 ∷ step.Close ∷ begin 9 ∷ [])) ≡ 9_000_000
unfolding connections_of idle_of lent_of pending_of in_work_of in_work_at numbered_of next_reap_of next_id_of orders_of is_before is_expired is_kept released_at
every_begin_counts = refl

far_moments : run (new (limits 1 None None (Some 1000) 30_000 30_000)) (begin 0 ∷ number 0 ∷ admit 18_446_744_073_709_551_615 0 7 ∷ reap 0 ∷ begin 0 ∷ begin 0
    ∷ take 0 ∷ return 0 0 7 ∷ [])
    ≡ ends 1 1 0 (opens 0 ∷ numbered 0 ∷ admitted ∷ Reaped [] 0 ∷ reaps ∷ reaps ∷ taken 0 18_446_744_073_709_551_615 7 0 ∷ kept ∷ [])
unfolding connections_of idle_of lent_of pending_of in_work_of in_work_at numbered_of next_reap_of next_id_of orders_of is_before is_expired is_kept released_at
far_moments = refl

far_reaps : run (new (limits 1 None None (Some 1) 30_000 18_446_744_073_709_551_615)) (begin 0 ∷ begin 0 ∷ begin 18_446_744_073_709_551_615 ∷ begin 0 ∷ [])
    ≡ ends 0 0 1 (opens 0 ∷ waits 18_446_744_073_709_551_615 ∷ reaps ∷ waits 36_893_488_147_419_103_230 ∷ [])
unfolding connections_of idle_of lent_of pending_of in_work_of in_work_at numbered_of next_reap_of next_id_of orders_of is_before is_expired is_kept released_at
far_reaps = refl

the_greatest_moment : run (new (sized 1)) (step.Begin longest ∷ step.Fail longest 0 None ∷ step.Begin longest ∷ [])
    ≡ ends 0 0 1 (opens 0 ∷ Failed (Ok 18_446_744_073_709_551_615_999_999_999) ∷ opens 1 ∷ [])
unfolding connections_of idle_of lent_of pending_of in_work_of in_work_at numbered_of next_reap_of next_id_of orders_of is_before is_expired is_kept released_at
the_greatest_moment = refl

reaps_at_the_greatest_moment : run (new (settings 1 None None (Some (ms 1000)) (ms 30_000) longest)) (step.Begin longest ∷ step.Begin longest ∷ begin 0 ∷ [])
    ≡ ends 0 0 1 (opens 0 ∷ reaps ∷ reaps ∷ [])
unfolding connections_of idle_of lent_of pending_of in_work_of in_work_at numbered_of next_reap_of next_id_of orders_of is_before is_expired is_kept released_at
reaps_at_the_greatest_moment = refl

-- REFUSALS

strangers_are_refused : run (new (sized 1)) (number 0 ∷ admit 0 5 1 ∷ begin 0 ∷ number 3 ∷ number 0 ∷ admit 0 0 7 ∷ return 1 9 5 ∷ take 2 ∷ return 3 0 7
    ∷ return 4 0 7 ∷ [])
    ≡ ends 1 1 0 (Numbered (Err refusal.NoOpening) ∷ Admitted (Err (refusal.NotNumbered, 1)) ∷ opens 0 ∷ Numbered
    (Err refusal.NoOpening) ∷ numbered 0 ∷ admitted
    ∷ not_lent 5 ∷ taken 0 0 7 0 ∷ kept ∷ not_lent 7 ∷ [])
unfolding connections_of idle_of lent_of pending_of in_work_of in_work_at numbered_of next_reap_of next_id_of orders_of is_before is_expired is_kept released_at
strangers_are_refused = refl

ids_are_used_up : run (Made (sized 2) 0 18_446_744_073_709_551_614) (begin 0 ∷ begin 0 ∷ number 0 ∷ number 0 ∷ fail 0 0 ∷ begin 0 ∷ [])
    ≡ ends 0 0 2 (opens 0 ∷ opens 0 ∷ numbered 18_446_744_073_709_551_614 ∷ Numbered (Err refusal.IdsUsedUp) ∷ retry 400 ∷ waits 400 ∷ [])
unfolding connections_of idle_of lent_of pending_of in_work_of in_work_at numbered_of next_reap_of next_id_of orders_of is_before is_expired is_kept released_at
ids_are_used_up = refl

no_id_at_all : run (Made (sized 1) 0 18_446_744_073_709_551_615) (begin 0 ∷ number 0 ∷ number 1 ∷ [])
    ≡ ends 0 0 1 (opens 0 ∷ Numbered (Err refusal.IdsUsedUp) ∷ Numbered (Err refusal.NoOpening) ∷ [])
unfolding connections_of idle_of lent_of pending_of in_work_of in_work_at numbered_of next_reap_of next_id_of orders_of is_before is_expired is_kept released_at
no_id_at_all = refl

-- CLOSING

closed_for_good : run (new (sized 1)) (step.Close ∷ number 3 ∷ admit 0 9 1 ∷ fail 0 9 ∷ bad 0 9 ∷ broken 0 9 1 ∷ reap 0 ∷ want 0 ∷ begin 0 ∷ step.TakeError ∷
    step.Close ∷ [])
    ≡ ends 0 0 0 (Close [] ∷ Numbered (Err refusal.Closed) ∷ Admitted (Err (refusal.Closed, 1)) ∷ Failed (Err refusal.Closed) ∷ CheckFailed (Err refusal.NotLent)
    ∷ not_lent 1 ∷ Reaped [] 0 ∷ empty 0 ∷ Begun JobClosed ∷ TakeError None ∷ Close [] ∷ [])
unfolding connections_of idle_of lent_of pending_of in_work_of in_work_at numbered_of next_reap_of next_id_of orders_of is_before is_expired is_kept released_at
closed_for_good = refl

closing_hands_out_the_oldest_first : run (opened_two (sized 2)) (step.Close ∷ [])
    ≡ ends 0 0 0 (Close ((0, 70) ∷ (1, 71) ∷ []) ∷ [])
unfolding connections_of idle_of lent_of pending_of in_work_of in_work_at numbered_of next_reap_of next_id_of orders_of is_before is_expired is_kept released_at
closing_hands_out_the_oldest_first = refl

closing_amid_openings : run (new (sized 2)) (begin 0 ∷ begin 0 ∷ number 0 ∷ admit 0 0 7 ∷ take 1 ∷ number 0 ∷ step.Close ∷ admit 2 1 8 ∷ fail 3 0 ∷ take 4 ∷
    begin 4
    ∷ return 5 0 7 ∷ step.Close ∷ [])
    ≡ ends 0 0 0 (opens 0 ∷ opens 0 ∷ numbered 0 ∷ admitted ∷ taken 0 0 7 0 ∷ numbered 1 ∷ Close [] ∷ Admitted (Err (refusal.Closed, 8))
    ∷ Failed (Err refusal.Closed) ∷ empty 0 ∷ Begun JobClosed ∷ closed 7 5 0 ∷ Close [] ∷ [])
unfolding connections_of idle_of lent_of pending_of in_work_of in_work_at numbered_of next_reap_of next_id_of orders_of is_before is_expired is_kept released_at
closing_amid_openings = refl

each_pending_opening_has_its_place : on_order_of (after_all (new (limits 4 None None (Some 1000) 30_000 30_000)) (begin 0 ∷ begin 0 ∷ begin 0 ∷ number 0
    ∷ admit 0 0 7 ∷ take 1 ∷ number 0 ∷ []))
    ≡ record {
      limits = limits 4 None None (Some 1000) 30_000 30_000;
      scheduled = opening 0 0 ∷ [];
      in_work = 1 ∷ replicate 99 0;
      numbered = 1 ∷ [];
      next_reap = Some 30_000_000_000;
      next_id = 2;
      pending = 3;
      closed = false;
    }
unfolding connections_of idle_of lent_of pending_of in_work_of in_work_at numbered_of next_reap_of next_id_of orders_of is_before is_expired is_kept released_at
    on_order_of
each_pending_opening_has_its_place = refl

nothing_is_on_order_once_closed : picture_of (after_all (new (limits 4 None None (Some 1000) 30_000 30_000))
    (begin 0 ∷ begin 0 ∷ begin 0 ∷ number 0 ∷ admit 0 0 7
    ∷ take 1 ∷ number 0 ∷ step.Close ∷ []))
    ≡ record {
      latest = 1_000_000;
      idle = [];
      lent = lent_connection 0 0 ∷ [];
      connections = 1;
      last_error = None;
      on_order =
          record {
            limits = limits 4 None None (Some 1000) 30_000 30_000;
            scheduled = [];
            in_work = replicate 100 0;
            numbered = [];
            next_reap = None;
            next_id = 2;
            pending = 0;
            closed = true;
          };
    }
unfolding connections_of idle_of lent_of pending_of in_work_of in_work_at numbered_of next_reap_of next_id_of orders_of is_before is_expired is_kept released_at
    on_order_of picture_of
nothing_is_on_order_once_closed = refl

-- THE LAST ERROR, whatever the texts

the_last_error : (blammo first second : String Global) → run (new (sized 1)) (begin 0 ∷ fail_by 0 0 blammo ∷ step.TakeError ∷ step.TakeError ∷ begin 400 ∷
    fail_by 400 1 first
    ∷ begin 1200 ∷ fail 1200 2 ∷ step.TakeError ∷ begin 2800 ∷ fail_by 2800 3 second ∷ begin 6000 ∷ number 4 ∷ admit 6000 0 7 ∷ step.TakeError ∷ step.Close ∷
    [])
    ≡ ends 0 0 0 (opens 0 ∷ retry 400 ∷ told blammo ∷ TakeError None ∷ opens 1 ∷ retry 1200 ∷ opens 2 ∷ retry 2800 ∷ told first ∷ opens 3 ∷ retry 6000 ∷ opens 4
    ∷ numbered 0 ∷ admitted ∷ TakeError None ∷ Close ((0, 7) ∷ []) ∷ [])
unfolding connections_of idle_of lent_of pending_of in_work_of in_work_at numbered_of next_reap_of next_id_of orders_of is_before is_expired is_kept released_at
the_last_error blammo first second = refl

a_failed_check_is_told : (sick : String Global) → run (opened_two (sized 2)) (take 1 ∷ bad_by 2 1 sick ∷ take 3 ∷ step.TakeError ∷ step.TakeError ∷ [])
    ≡ ends 1 0 1 (taken 1 0 71 0 ∷ lost 2 1 ∷ taken 0 0 70 0 ∷ told sick ∷ TakeError None ∷ [])
unfolding connections_of idle_of lent_of pending_of in_work_of in_work_at numbered_of next_reap_of next_id_of orders_of is_before is_expired is_kept released_at
a_failed_check_is_told sick = refl

told_once_closed : (sick worse : String Global) → run (opened_two (sized 2)) (take 1 ∷ take 1 ∷ bad_by 2 1 sick ∷ step.Close ∷ step.TakeError ∷ bad_by 3 0 worse
    ∷ step.TakeError ∷ [])
    ≡ ends 0 0 0 (taken 1 0 71 0 ∷ taken 0 0 70 0 ∷ lost 2 1 ∷ Close [] ∷ told sick ∷ lost 3 0 ∷ told worse ∷ [])
unfolding connections_of idle_of lent_of pending_of in_work_of in_work_at numbered_of next_reap_of next_id_of orders_of is_before is_expired is_kept released_at
told_once_closed sick worse = refl
