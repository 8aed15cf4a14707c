-- What is read as a prefix is one.
use Rattle.std.proofs.Common.{◌≡◌, ℕ, ◌+◌, ◌*◌, ◌-◌, ◌≤◌, Bool, true, false, ◌&&◌, List, [], ◌∷◌, Option, Some, None, if◌then◌else◌, refl, sym, subst, arith}
use Rattle.std.specs.Prelude.{option_and_then}
use Rattle.serde_json.specs.Data.{Data}
use Rattle.serde_json.specs.Find.{as_str, get}
use Rattle.onvm_base.specs.declared.limits.TheConstants.{IPV4_BITS, IPV6_BITS}
use Rattle.onvm_base.specs.declared.rules.Prefix.{Prefix}
use Rattle.onvm_base.specs.declared.rules.Prefix.TheVariants.{V4, V6}
use Rattle.onvm_base.specs.Plan.{IsPrefix, IsShortPrefix}
use Rattle.chain_file.specs.Kinds.{short_prefix_at, spelled_or, nowhere}
use Rattle.chain_file.specs.Matches.{prefix_at}
use Rattle.chain_file.specs.Spelling.{cut, decimal_of, else_short, is_digit, is_leading, long_prefix_of, prefix_of, short_prefix_of, up_to, v4_of, v4_with, v6_of, v6_with}
use Rattle.chain_file.proofs.KeptLists.{no_some, same_some}

up_to_within : (limit n m : ℕ) → up_to limit n ≡ Some m → m ≤ limit
up_to_within limit n m e = grind arith

if_some : {A : Type 0} (test : Bool) (o : Option A) (x : A) → (if test then o else None) ≡ Some x → o ≡ Some x
if_some true o x e = e
if_some false o x e = absurd (no_some x (sym e))

decimal_within : (limit : ℕ) (text : List ℕ) (m : ℕ) → decimal_of limit text ≡ Some m → m ≤ limit
decimal_within limit [] m e = absurd (no_some m (sym e))
decimal_within limit (a ∷ []) m e = up_to_within limit (a - 48) m (if_some (is_digit a) (up_to limit (a - 48)) m e)
decimal_within limit (a ∷ b ∷ []) m e =
    up_to_within limit (10 * (a - 48) + (b - 48)) m
    (if_some (is_leading a && is_digit b) (up_to limit (10 * (a - 48) + (b - 48))) m e)
decimal_within limit (a ∷ b ∷ c ∷ []) m e =
    up_to_within limit (100 * (a - 48) + 10 * (b - 48) + (c - 48)) m
    (if_some (is_leading a && is_digit b && is_digit c) (up_to limit (100 * (a - 48) + 10 * (b - 48) + (c - 48))) m e)
decimal_within limit (a ∷ b ∷ c ∷ d ∷ text) m e = absurd (no_some m (sym e))

pub v4-IsShortPrefix : (address bits : ℕ) → bits ≤ IPV4_BITS → IsShortPrefix (V4 address bits)
v4-IsShortPrefix address bits few = record {
  is_prefix = record {
    short = λ a b e. let same : bits ≡ b = cc in subst (λ n. n ≤ IPV4_BITS) same few;
    long = λ a b e. absurd (let off : V4 address bits ≡ V6 a b = e in cc);
  };
  is_short = λ a b e. let off : V4 address bits ≡ V6 a b = e in cc;
}

v6-IsPrefix : (address bits : ℕ) → bits ≤ IPV6_BITS → IsPrefix (V6 address bits)
v6-IsPrefix address bits few = record {
  short = λ a b e. absurd (let off : V6 address bits ≡ V4 a b = e in cc);
  long = λ a b e. let same : bits ≡ b = cc in subst (λ n. n ≤ IPV6_BITS) same few;
}

v4_with_right : (address bits : Option ℕ) (p : Prefix) → ((b : ℕ) → bits ≡ Some b → b ≤ IPV4_BITS) → v4_with address bits ≡ Some p
    → IsShortPrefix p
v4_with_right None bits p few e = absurd (no_some p (sym e))
v4_with_right (Some a) None p few e = absurd (no_some p (sym e))
v4_with_right (Some a) (Some b) p few e = subst IsShortPrefix (same_some (V4 a b) p e) (v4-IsShortPrefix a b (few b refl))

v6_with_right : (address bits : Option ℕ) (p : Prefix) → ((b : ℕ) → bits ≡ Some b → b ≤ IPV6_BITS) → v6_with address bits ≡ Some p
    → IsPrefix p
v6_with_right None bits p few e = absurd (no_some p (sym e))
v6_with_right (Some a) None p few e = absurd (no_some p (sym e))
v6_with_right (Some a) (Some b) p few e = subst IsPrefix (same_some (V6 a b) p e) (v6-IsPrefix a b (few b refl))

short_cut : (parts : Option (List ℕ × List ℕ)) (p : Prefix)
    → option_and_then (λ q. v4_with (v4_of q.0) (decimal_of IPV4_BITS q.1)) parts ≡ Some p → IsShortPrefix p
short_cut None p e = absurd (no_some p (sym e))
short_cut (Some q) p e = v4_with_right (v4_of q.0) (decimal_of IPV4_BITS q.1) p (decimal_within IPV4_BITS q.1) e

pub short_prefix_right : (text : List ℕ) (p : Prefix) → short_prefix_of text ≡ Some p → IsShortPrefix p
short_prefix_right text p e = short_cut (cut 47 text) p e

long_cut : (parts : Option (List ℕ × List ℕ)) (p : Prefix)
    → option_and_then (λ q. v6_with (v6_of q.0) (decimal_of IPV6_BITS q.1)) parts ≡ Some p → IsPrefix p
long_cut None p e = absurd (no_some p (sym e))
long_cut (Some q) p e = v6_with_right (v6_of q.0) (decimal_of IPV6_BITS q.1) p (decimal_within IPV6_BITS q.1) e

either_right : (text : List ℕ) (long : Option Prefix) (p : Prefix) → ((q : Prefix) → long ≡ Some q → IsPrefix q)
    → else_short text long ≡ Some p → IsPrefix p
either_right text None p is_long e = (short_prefix_right text p e).is_prefix
either_right text (Some q) p is_long e = subst IsPrefix (same_some q p e) (is_long q refl)

prefix_right : (text : List ℕ) (p : Prefix) → prefix_of text ≡ Some p → IsPrefix p
prefix_right text p e = either_right text (long_prefix_of text) p (λ q is. long_cut (cut 47 text) q is) e

text_prefix : (text : Option (List ℕ)) (p : Prefix) → option_and_then prefix_of text ≡ Some p → IsPrefix p
text_prefix None p e = absurd (no_some p (sym e))
text_prefix (Some text) p e = prefix_right text p e

pub prefix_at_right : (o : Option Data) (p : Prefix) → (prefix_at o).value ≡ Some p → IsPrefix p
prefix_at_right None p e = absurd (no_some p (sym e))
prefix_at_right (Some d) p e = text_prefix (as_str d) p e

spelled_right : (o : Option Prefix) → ((p : Prefix) → o ≡ Some p → IsShortPrefix p) → IsShortPrefix (spelled_or nowhere o).value
spelled_right None right = v4-IsShortPrefix 0 0 (omega arith)
spelled_right (Some p) right = right p refl

text_short : (text : Option (List ℕ)) (p : Prefix) → option_and_then short_prefix_of text ≡ Some p → IsShortPrefix p
text_short None p e = absurd (no_some p (sym e))
text_short (Some text) p e = short_prefix_right text p e

-- right or wrong, it is an IPv4 prefix
pub short_prefix_at_right : (key : List ℕ) (d : Data) → IsShortPrefix (short_prefix_at key d).value
short_prefix_at_right key d =
    spelled_right (option_and_then short_prefix_of (option_and_then as_str (get key d)))
    (text_short (option_and_then as_str (get key d)))
