use Rattle.std.proofs.Common.{◌≡◌, max, [], refl, ◌∙◌, ap, arith, drop}
use Rattle.std.proofs.lemmas.Grind.{common_steps}
use Rattle.std.proofs.lemmas.Bool.{OnTrue_at, OnFalse_at}
use Rattle.std.proofs.lemmas.List.{drop_all}
use Rattle.std.specs.Duration.{as_nanos}
use Rattle.pool_machine.specs.declared.schedule.limits.LendingOrder.TheVariants as lending
use Rattle.r2d2_core.specs.Reuse.{first_seen, moments_of, last_seen, newest_list, oldest_list, Picked, other_list, raised_now, expired}
use Rattle.r2d2_core.proofs.Reusing.Choices.{at_least_left, at_most_left, expired_is_for_old, between}
use Rattle.r2d2_core.proofs.Reusing.Moves.{order_started, other_started, seen_moved, order_moved, other_moved, other_stopped, seen_ended, order_ended, other_ended, is_some_and, never_none}
use Rattle.r2d2_core.proofs.reuse.compare.Goals as goal

pub returns-in_err-newest-clause-at_every_threshold : goal.returns-in_err-newest-clause-at_every_threshold
returns-in_err-newest-clause-at_every_threshold c = between c.args.idle.now c.args.moves.now c.args.picks.now c.requires

pub returns-in_err-oldest-clause-at_every_threshold : goal.returns-in_err-oldest-clause-at_every_threshold
returns-in_err-oldest-clause-at_every_threshold c = between c.args.idle.now c.args.moves.now c.args.picks.now c.requires

pub returns-in_err-nanos_of-clause-at_every_threshold : goal.returns-in_err-nanos_of-clause-at_every_threshold
returns-in_err-nanos_of-clause-at_every_threshold c = between c.args.idle.now c.args.moves.now c.args.picks.now c.requires

pub returns-in_err-play-clause-at_every_threshold : goal.returns-in_err-play-clause-at_every_threshold
returns-in_err-play-clause-at_every_threshold c = between c.args.idle.now c.args.moves.now c.args.picks.now c.requires

pub loop-step-init : goal.loop-step-init
loop-step-init c =
    let idle = c.args.idle.now in
    let moves = c.args.moves.now in
    let seen : c.unwrap_or-seen.result ≡ first_seen (moments_of c.args.idle.now) = grind (arith, common_steps) in
    record {
      newest = order_started lending.NewestFirst c.unwrap_or-seen.result (first_seen (moments_of idle)) c.in_ok-newest.newest.items (moments_of idle) moves seen c.in_ok-newest.ensures;
      oldest = order_started lending.OldestFirst c.unwrap_or-seen.result (first_seen (moments_of idle)) c.in_ok-oldest.oldest.items (moments_of idle) moves seen c.in_ok-oldest.ensures;
      other = other_started c.unwrap_or-seen.result (first_seen (moments_of idle)) c.in_ok-nanos_of.field-0.items (moments_of idle) c.args.picks.now moves seen c.in_ok-nanos_of.ensures;
      seen = ap (λ m. last_seen m moves) seen;
    }

pub loop-step-preserved : goal.loop-step-preserved
loop-step-preserved c =
    let seen = c.loop-step.seen in
    let moves = c.args.moves.now in
    let i = c.loop-step.step-index in
    let t = c.max-seen.result in
    record {
      newest = order_moved lending.NewestFirst seen t c.loop-step.newest.items c.play.new.newest.items moves i _ _ c.loop-step-test.true
          (c.max-seen.ensures ∙ ap (max c.loop-step.seen) c.nanos_at.ensures) c.loop-step.invariant.newest c.in_ok-play.ensures.newest;
      oldest = order_moved lending.OldestFirst seen t c.loop-step.oldest.items c.play.new.oldest.items moves i _ _ c.loop-step-test.true
          (c.max-seen.ensures ∙ ap (max c.loop-step.seen) c.nanos_at.ensures) c.loop-step.invariant.oldest c.in_ok-play.ensures.oldest;
      other = other_moved seen t c.loop-step.other c.play.new.other moves i _ _ c.loop-step-test.true
          (c.max-seen.ensures ∙ ap (max c.loop-step.seen) c.nanos_at.ensures) c.loop-step.invariant.other (OnTrue_at c.if-not-branch.false c.in_ok-play.ensures.served);
      seen = seen_moved seen t moves i _ _ c.loop-step-test.true
          (c.max-seen.ensures ∙ ap (max c.loop-step.seen) c.nanos_at.ensures) c.loop-step.invariant.seen;
    }

pub returns-then-not-branch-clause-none : goal.returns-then-not-branch-clause-none
returns-then-not-branch-clause-none c = (
  λ none. other_stopped c.loop-step.seen c.max-seen.result c.loop-step.other c.args.moves.now c.loop-step.step-index _ _ c.loop-step-test.true
      (c.max-seen.ensures ∙ ap (max c.loop-step.seen) c.nanos_at.ensures) c.loop-step.invariant.other (OnFalse_at c.if-not-branch.true c.in_ok-play.ensures.unserved),
  λ none. refl,
)

pub returns-then-not-branch-clause-at_every_threshold : goal.returns-then-not-branch-clause-at_every_threshold
returns-then-not-branch-clause-at_every_threshold c = between c.args.idle.now c.args.moves.now c.args.picks.now c.requires

pub returns-clause-newest_first : goal.returns-clause-newest_first
returns-clause-newest_first c =
    let idle = c.args.idle.now in
    let moves = c.args.moves.now in
    let picks = c.args.picks.now in
    let limit = c.args.limit in
    let at_end : drop c.loop-step.step-index moves ≡ [] = drop_all c.loop-step.step-index moves c.loop-step-test.false in
    let newest = order_ended lending.NewestFirst c.loop-step.seen c.loop-step.newest.items (drop c.loop-step.step-index moves) (newest_list idle moves) at_end c.loop-step.invariant.newest in
    let seen = seen_ended c.loop-step.seen (drop c.loop-step.step-index moves) (last_seen (first_seen (moments_of idle)) moves) at_end c.loop-step.invariant.seen in
    let raised : c.max-now.result ≡ raised_now idle moves c.args.now = c.max-now.ensures ∙ (ap (max c.loop-step.seen) c.as_nanos.ensures ∙ ap (λ m. max m (as_nanos c.args.now)) seen) in
    (c.count_expired.ensures ∙ ap (expired c.max-now.result limit) (c.deref-2.ensures.value ∙ newest)) ∙ ap (λ m. expired m limit (newest_list idle moves)) raised

pub returns-clause-oldest_first : goal.returns-clause-oldest_first
returns-clause-oldest_first c =
    let idle = c.args.idle.now in
    let moves = c.args.moves.now in
    let picks = c.args.picks.now in
    let limit = c.args.limit in
    let at_end : drop c.loop-step.step-index moves ≡ [] = drop_all c.loop-step.step-index moves c.loop-step-test.false in
    let oldest = order_ended lending.OldestFirst c.loop-step.seen c.loop-step.oldest.items (drop c.loop-step.step-index moves) (oldest_list idle moves) at_end c.loop-step.invariant.oldest in
    let seen = seen_ended c.loop-step.seen (drop c.loop-step.step-index moves) (last_seen (first_seen (moments_of idle)) moves) at_end c.loop-step.invariant.seen in
    let raised : c.max-now.result ≡ raised_now idle moves c.args.now = c.max-now.ensures ∙ (ap (max c.loop-step.seen) c.as_nanos.ensures ∙ ap (λ m. max m (as_nanos c.args.now)) seen) in
    (c.count_expired-2.ensures ∙ ap (expired c.max-now.result limit) (c.deref-3.ensures.value ∙ oldest)) ∙ ap (λ m. expired m limit (oldest_list idle moves)) raised

pub returns-clause-other : goal.returns-clause-other
returns-clause-other c =
    let idle = c.args.idle.now in
    let moves = c.args.moves.now in
    let picks = c.args.picks.now in
    let limit = c.args.limit in
    let at_end : drop c.loop-step.step-index moves ≡ [] = drop_all c.loop-step.step-index moves c.loop-step-test.false in
    let other = other_ended c.loop-step.seen c.loop-step.other (drop c.loop-step.step-index moves) (other_list idle moves picks) at_end c.loop-step.invariant.other in
    let seen = seen_ended c.loop-step.seen (drop c.loop-step.step-index moves) (last_seen (first_seen (moments_of idle)) moves) at_end c.loop-step.invariant.seen in
    let raised : c.max-now.result ≡ raised_now idle moves c.args.now = c.max-now.ensures ∙ (ap (max c.loop-step.seen) c.as_nanos.ensures ∙ ap (λ m. max m (as_nanos c.args.now)) seen) in
    is_some_and (λ left. c.count_expired-3.result ≡ expired (raised_now idle moves c.args.now) limit left) (other_list idle moves picks) c.loop-step.other.kept other
    ((c.count_expired-3.ensures ∙ ap (expired c.max-now.result limit) (c.deref-4.ensures.value ∙ ap (λ (a : Picked). a.kept) c.other-2.view_is)) ∙ ap (λ m. expired m limit c.loop-step.other.kept) raised)

pub returns-clause-none : goal.returns-clause-none
returns-clause-none c =
    let idle = c.args.idle.now in
    let moves = c.args.moves.now in
    let picks = c.args.picks.now in
    let limit = c.args.limit in
    let at_end : drop c.loop-step.step-index moves ≡ [] = drop_all c.loop-step.step-index moves c.loop-step-test.false in
    let other = other_ended c.loop-step.seen c.loop-step.other (drop c.loop-step.step-index moves) (other_list idle moves picks) at_end c.loop-step.invariant.other in
    never_none _ (other_list idle moves picks) c.loop-step.other.kept other

pub returns-clause-at_every_threshold : goal.returns-clause-at_every_threshold
returns-clause-at_every_threshold c = between c.args.idle.now c.args.moves.now c.args.picks.now c.requires

pub returns-clause-at_least : goal.returns-clause-at_least
returns-clause-at_least c =
    let idle = c.args.idle.now in
    let moves = c.args.moves.now in
    let picks = c.args.picks.now in
    let limit = c.args.limit in
    let at_end : drop c.loop-step.step-index moves ≡ [] = drop_all c.loop-step.step-index moves c.loop-step-test.false in
    let newest = order_ended lending.NewestFirst c.loop-step.seen c.loop-step.newest.items (drop c.loop-step.step-index moves) (newest_list idle moves) at_end c.loop-step.invariant.newest in
    let other = other_ended c.loop-step.seen c.loop-step.other (drop c.loop-step.step-index moves) (other_list idle moves picks) at_end c.loop-step.invariant.other in
    let first : c.count_expired.result ≡ expired c.max-now.result limit (newest_list idle moves) = c.count_expired.ensures ∙ ap (expired c.max-now.result limit) (c.deref-2.ensures.value ∙ newest) in
    let second : c.count_expired-3.result ≡ expired c.max-now.result limit c.loop-step.other.kept =
    c.count_expired-3.ensures ∙ ap (expired c.max-now.result limit) (c.deref-4.ensures.value ∙ ap (λ (a : Picked). a.kept) c.other-2.view_is) in
    rw (first, second) (at_least_left _ (expired_is_for_old c.max-now.result (as_nanos limit)) idle moves picks c.loop-step.other.kept c.requires other)

pub returns-clause-at_most : goal.returns-clause-at_most
returns-clause-at_most c =
    let idle = c.args.idle.now in
    let moves = c.args.moves.now in
    let picks = c.args.picks.now in
    let limit = c.args.limit in
    let at_end : drop c.loop-step.step-index moves ≡ [] = drop_all c.loop-step.step-index moves c.loop-step-test.false in
    let oldest = order_ended lending.OldestFirst c.loop-step.seen c.loop-step.oldest.items (drop c.loop-step.step-index moves) (oldest_list idle moves) at_end c.loop-step.invariant.oldest in
    let other = other_ended c.loop-step.seen c.loop-step.other (drop c.loop-step.step-index moves) (other_list idle moves picks) at_end c.loop-step.invariant.other in
    let first : c.count_expired-2.result ≡ expired c.max-now.result limit (oldest_list idle moves) = c.count_expired-2.ensures ∙ ap (expired c.max-now.result limit) (c.deref-3.ensures.value ∙ oldest) in
    let second : c.count_expired-3.result ≡ expired c.max-now.result limit c.loop-step.other.kept =
    c.count_expired-3.ensures ∙ ap (expired c.max-now.result limit) (c.deref-4.ensures.value ∙ ap (λ (a : Picked). a.kept) c.other-2.view_is) in
    rw (first, second) (at_most_left _ (expired_is_for_old c.max-now.result (as_nanos limit)) idle moves picks c.loop-step.other.kept c.requires other)
