-- The examples of RFC 4648, section 10, of at most four symbols.
use Rattle.std.specs.Prelude.{codes}
use Rattle.std.proofs.Common.{◌≡◌, refl}
use Rattle.sp_lib.specs.Base64.{symbols}

one : symbols (codes "f") ≡ codes "Zg=="
one = refl

two : symbols (codes "fo") ≡ codes "Zm8="
two = refl

three : symbols (codes "foo") ≡ codes "Zm9v"
three = refl
