-- Objects have one answer, since modules have one.
use Rattle.std.proofs.Common.{◌≡◌, ℕ, None, Some, List, map, sym, ◌∙◌}
use Rattle.pw_value.specs.declared.fault.LinkFault.{LinkFault}
use Rattle.pw_object.specs.declared.object.Object.{Object}
use Rattle.pw_link_rules.specs.declared.interface.Interface.{Interface}
use Rattle.pw_link_rules.specs.Linking.{Links, Refusal}
use Rattle.pw_link_interface.specs.Interface.{interface}
use Rattle.pw_link.specs.Linking.{AreLinked, IsRefusal, no_program, too_large}

pub not_both : ((modules : List Interface) (fault : LinkFault) → Links modules → Refusal modules fault → ⊥) → (objects : List Object) (stack : ℕ) (fault : LinkFault) → AreLinked objects stack → IsRefusal objects stack fault → ⊥
not_both apart objects stack fault linked (no_program refusal) = apart (map interface objects) fault linked.program refusal
not_both apart objects stack fault linked (too_large links large) = let e : None ≡ Some fault = sym linked.fits ∙ large in absurd cc

pub one_fault : ((modules : List Interface) (fault : LinkFault) → Links modules → Refusal modules fault → ⊥) → ((modules : List Interface) (fault other : LinkFault) → Refusal modules fault → Refusal modules other → fault ≡ other)
    → (objects : List Object) (stack : ℕ) (fault other : LinkFault) → IsRefusal objects stack fault → IsRefusal objects stack other → fault ≡ other
one_fault apart one objects stack fault other (no_program r) (no_program s) = one (map interface objects) fault other r s
one_fault apart one objects stack fault other (no_program r) (too_large links large) = absurd (apart (map interface objects) fault links r)
one_fault apart one objects stack fault other (too_large links large) (no_program s) = absurd (apart (map interface objects) other links s)
one_fault apart one objects stack fault other (too_large links large) (too_large again larger) = let e : Some fault ≡ Some other = sym large ∙ larger in cc
