use Rattle.std.proofs.Common.{◌≡◌, [], ◌∷◌, map, max, refl, ◌∙◌, ap, subst, arith}
use Rattle.std.specs.Duration.{as_nanos}
use Rattle.std.proofs.lemmas.List.{nil_from_length, map-append, length-map, length_push}
use Rattle.pool_machine.specs.Seen.{seen_released}
use Rattle.pool_machine.specs.Picture.{IsSound}
use Rattle.pool_state.proofs.Evicting.{EvictsNext, evicting, goes_on, has_more, fewer, none_left, all_handed, evicted, rest_after, rest_of_none, one_more_counted}
use Rattle.pool_state.proofs.engine.counted.CountingBook.evict.Goals as goal

pub loop-released-init : goal.loop-released-init
loop-released-init g c =
    let none : c.args.out.now.items ≡ [] = nil_from_length c.args.out.now.items (omega (arith, c.requires.empty, c.args.out.now.ok.0)) in
    record {
      evicting = rw none (evicting (as_nanos c.args.now) c.args.self.now.book.picture);
      whole = refl;
      sound = subst (λ b. IsSound b.picture) c.book.ensures.value c.idle-idle.ensures.facts.sound;
      room = refl;
      parts = refl;
      amount = rw none (omega arith);
    }

pub push_reserved-requires : goal.push_reserved-requires
push_reserved-requires g c =
    let t = as_nanos c.args.now in
    let more = has_more t c.args.self.now.book.picture c.loop-released.self.book.picture (map seen_released c.loop-released.out.items)
    (seen_released c.in-Some.released) c.in-Some.ensures.released c.loop-released.invariant.evicting c.loop-released.invariant.sound in
    omega (arith, more, length-map c.loop-released.out.items seen_released, c.requires.room, c.loop-released.invariant.room, c.loop-released.out.ok.0)

pub loop-released-preserved : goal.loop-released-preserved
loop-released-preserved g c =
    let t = as_nanos c.args.now in
    let p = c.args.self.now.book.picture in
    let q = c.loop-released.self.book.picture in
    let s = c.evict_next.new.self.book.picture in
    let pushed = c.push_reserved.ensures.items in
    let x : EvictsNext t q s = record {
      idle = c.evict_next.ensures.idle;
      lent = c.evict_next.ensures.lent;
      latest = c.evict_next.ensures.latest;
      limits = c.evict_next.ensures.limits;
      next_id = c.evict_next.ensures.next_id;
      closed = c.evict_next.ensures.closed;
      pending = c.evict_next.ensures.pending;
      last_error = c.evict_next.ensures.last_error;
    } in
    let v = goes_on t p q s (map seen_released c.loop-released.out.items) (seen_released c.in-Some.released) c.in-Some.ensures.released
    c.loop-released.invariant.evicting x in
    record {
      evicting = rw (pushed, map-append seen_released c.loop-released.out.items (c.in-Some.released ∷ [])) v;
      whole = rest_after t (max q.latest t) c.loop-released.self.book c.evict_next.new.self.book p.on_order.limits.order (seen_released c.in-Some.released)
          (ap (λ l. l.order) c.loop-released.invariant.evicting.limits) c.in-Some.ensures.released c.in-Some.ensures.after c.evict_next.ensures.idle
          ∙ c.loop-released.invariant.whole;
      sound = c.loop-released.invariant.sound;
      room = c.push_reserved.ensures.capacity ∙ c.loop-released.invariant.room;
      parts = c.evict_next.ensures.parts ∙ c.loop-released.invariant.parts;
      amount = rw (pushed, length_push c.loop-released.out.items c.in-Some.released) (one_more_counted _ _ _ _ _ c.loop-released.invariant.amount
          c.in-Some.ensures.amount);
    }

pub returns-clause-released : goal.returns-clause-released
returns-clause-released g c =
    let t = as_nanos c.args.now in
    let q = c.loop-released.self.book.picture in
    all_handed t c.args.self.now.book.picture q (map seen_released c.loop-released.out.items)
    (none_left t q c.in_default.ensures.released) c.loop-released.invariant.evicting

pub returns-clause-comes_to : goal.returns-clause-comes_to
returns-clause-comes_to g c =
    let t = as_nanos c.args.now in
    let q = c.loop-released.self.book.picture in
    let s = c.evict_next.new.self.book.picture in
    let x : EvictsNext t q s = record {
      idle = c.evict_next.ensures.idle;
      lent = c.evict_next.ensures.lent;
      latest = c.evict_next.ensures.latest;
      limits = c.evict_next.ensures.limits;
      next_id = c.evict_next.ensures.next_id;
      closed = c.evict_next.ensures.closed;
      pending = c.evict_next.ensures.pending;
      last_error = c.evict_next.ensures.last_error;
    } in
    evicted t c.args.self.now.book.picture q s (map seen_released c.loop-released.out.items)
    (none_left t q c.in_default.ensures.released) c.loop-released.invariant.evicting x

pub returns-clause-after : goal.returns-clause-after
returns-clause-after g c =
    let t = as_nanos c.args.now in
    let b = c.loop-released.self.book in
    rest_of_none t (max b.picture.latest t) b c.evict_next.new.self.book c.args.self.now.book.picture.on_order.limits.order c.in_default.ensures.released
    c.evict_next.ensures.after ∙ c.loop-released.invariant.whole

pub loop-released-smaller : goal.loop-released-smaller
loop-released-smaller g c =
    let q = c.loop-released.self.book.picture in
    fewer (max q.latest (as_nanos c.args.now)) q c.evict_next.new.self.book.picture (seen_released c.in-Some.released) c.in-Some.ensures.released
    c.evict_next.ensures.idle
