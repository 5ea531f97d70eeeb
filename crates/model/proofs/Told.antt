-- In each case of demand 2 (specs/Complete.antt) its field says what the step leads to: from the fields alone, nothing of the step is looked at.
-- Assumes nothing.
use Prim.Native.Nat.{ℕ}
use Rattle.model.specs.Words.{Hub}
use Rattle.model.specs.Step.{Step}
use Rattle.model.specs.Demands.{Demand2, Demand2Slots}
use Rattle.model.specs.Complete as Case
use Rattle.model.specs.Complete.{Case, Leading}

module _ (h : Hub) (x : Step) (i number : ℕ) (d : Demand2 h x i number) (e : Demand2Slots h x i number) where
  pub told : Case h x i number → Leading h x
  told (Case.welcome a n) = (_, _, d.welcome a n)
  told (Case.other_realm r n a) = (_, _, d.other_realm r n a)
  told (Case.goodbye a) = let w = d.goodbye a in (_, _, w.leads)
  told (Case.abort a) = let w = d.abort a in (_, _, w.leads)
  told (Case.abort_early a) = (_, _, d.abort_early a)
  told (Case.subscribe_match n s a) = (_, _, d.subscribe_match n s a)
  told (Case.subscribe_uri n p s a v) = (_, _, d.subscribe_uri n p s a v)
  told (Case.subscribe_full n p s a v r f) = (_, _, d.subscribe_full n p s a v r f)
  told (Case.subscribe_new n p s a v r k l c) = let w = d.subscribe_new n p s a v r k l c in (_, _, w.2)
  told (Case.subscribe_join n p s a v k r) = let w = d.subscribe_join n p s a v k r in (_, _, w.2)
  told (Case.register_match n s a) = (_, _, d.register_match n s a)
  told (Case.register_uri n p s a v) = (_, _, d.register_uri n p s a v)
  told (Case.register_twice n p s a v k r) = (_, _, d.register_twice n p s a v k r)
  told (Case.register_full n p s a v r f) = (_, _, d.register_full n p s a v r f)
  told (Case.register_new n p s a v r k l c) = let w = d.register_new n p s a v r k l c in (_, _, w.2)
  told (Case.unsubscribe n id k a r) = let w = d.unsubscribe n id k a r in (_, _, w.2)
  told (Case.unsubscribe_none n id a r) = (_, _, d.unsubscribe_none n id a r)
  told (Case.unregister n id k a r) = let w = d.unregister n id k a r in (_, _, w.3)
  told (Case.unregister_none n id a r) = (_, _, d.unregister_none n id a r)
  told (Case.publish_argument n u s p a w) = (_, _, d.publish_argument n u s p a w)
  told (Case.publish_wrong n u s p a w) = (_, _, d.publish_wrong n u s p a w)
  told (Case.publish_uri n u s p a g v) = (_, _, d.publish_uri n u s p a g v)
  told (Case.publish_silent n u s p a g v) = (_, _, d.publish_silent n u s p a g v)
  told (Case.publish n u s p a g v) = let w = d.publish n u s p a g v in (_, _, w.leads)
  told (Case.publish_acknowledged n u s p a g v) = let w = d.publish_acknowledged n u s p a g v in (_, _, w.leads)
  told (Case.call_uri n s p a v) = (_, _, d.call_uri n s p a v)
  told (Case.call_none n s p a v r) = (_, _, d.call_none n s p a v r)
  told (Case.call_unconverted n s p a v r w c) = (_, _, d.call_unconverted n s p a v r w c)
  told (Case.call_full n s p a v r q w c f) = (_, _, d.call_full n s p a v r q w c f)
  told (Case.call_routed n s p a v r k c q w o g m) = (_, _, d.call_routed n s p a v r k c q w o g m)
  told (Case.yield v k p q a w g) = (_, _, d.yield v k p q a w g)
  told (Case.error v k u p q a w g) = (_, _, d.error v k u p q a w g)
  told (Case.yield_unconverted v k p a w c) = (_, _, d.yield_unconverted v k p a w c)
  told (Case.error_unconverted v k u p a w c) = (_, _, d.error_unconverted v k u p a w c)
  told (Case.yield_dropped v p a l w) = (_, _, d.yield_dropped v p a l w)
  told (Case.error_dropped v u p a l w) = (_, _, d.error_dropped v u p a l w)
  told (Case.violation m a v) = let w = e.violation m a v in (_, _, w.leads)
  told (Case.violation_early m a v) = (_, _, e.violation_early m a v)
  told (Case.attach f a) = (_, _, e.attach f a)
  told (Case.detach_open a) = let w = e.detach_open a in (_, _, w.leads)
  told (Case.detach_attached a) = (_, _, e.detach_attached a)
