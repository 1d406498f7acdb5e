-- Lookups, one after another.
use Rattle.std.proofs.Common.{◌≡◌, Option, Some, None, refl}
use Rattle.update_model.specs.Obtained.{◌>>=◌}

-- a value that was bound was there
pub bound : {A B : Type 0} (o : Option A) (f : A → Option B) (b : B) → (o >>= f) ≡ Some b → (a : A) × (o ≡ Some a) × (f a ≡ Some b)
bound None f b e = absurd (cc)
bound (Some a) f b e = (a, refl, e)
