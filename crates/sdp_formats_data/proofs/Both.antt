-- Two tests that hold together hold each.
use Rattle.std.proofs.Common.{◌&&◌, Bool, true, false, IsTrue, refl, sym, true≢false}

pub both : (p q : Bool) → IsTrue (p && q) → IsTrue p × IsTrue q
both true q e = (refl, e)
both false q e = absurd (true≢false (sym e))
