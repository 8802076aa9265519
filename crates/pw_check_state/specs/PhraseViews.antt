-- The plain data that specifiers, declarators and their parts show.
use Rattle.std.specs.Prelude.{Option, None, Some, List, map}
use Rattle.std.specs.Borrow.{Bor}
use Rattle.pw_tree.specs.declared.expr.Word.{Word}
use Rattle.pw_tree.specs.Trees as tree
use Rattle.pw_tree.specs.Views.{view_word}
use Rattle.pw_types.specs.Views.{view_qtype, view_types}
use Rattle.pw_check_names.specs.Scoping.{found_names}
use Rattle.pw_check_rules.specs.Limits as limits
use Rattle.pw_check_rules.specs.SpecifierLists as specifiers
use Rattle.pw_check_rules.specs.Derivations as derivations
use Rattle.pw_check_state.specs.declared.phrase.Spot.{Spot}
use Rattle.pw_check_state.specs.declared.phrase.Gathered.{Gathered}
use Rattle.pw_check_state.specs.declared.phrase.Specified.{Specified}
use Rattle.pw_check_state.specs.declared.phrase.Derivation.{Derivation}
use Rattle.pw_check_state.specs.declared.phrase.Derivation.TheVariants as step
use Rattle.pw_check_state.specs.declared.phrase.Parameter.{Parameter}
use Rattle.pw_check_state.specs.declared.phrase.Bindings.{Bindings}
use Rattle.pw_check_state.specs.declared.phrase.Declared.{Declared}

abbrev pub view_spot : Spot → limits.Spot
view_spot s = record { token = s.token; specifier = s.specifier; tag = s.tag }

abbrev pub view_gathered : Gathered → specifiers.Gathered
view_gathered g =
    record {
      storages = g.storages.items;
      constants = g.constants;
      volatiles = g.volatiles;
      words = g.words.items;
      others = map view_qtype g.others.items;
      tag = g.tag;
    }

abbrev pub view_specified : Specified → specifiers.Specified
view_specified b = record { storage = b.storage; ty = view_qtype b.ty; tag = b.tag; first = b.first }

abbrev pub view_name : Option (Bor Word) → Option tree.Word
view_name None = None
view_name (Some w) = Some (view_word w.now)

abbrev pub view_derivation : Derivation → derivations.Derivation
view_derivation (step.ToPointer token qualifiers) = derivations.ToPointer token qualifiers.now
view_derivation (step.ToArray length) = derivations.ToArray length
view_derivation (step.ToFunction parameters) = derivations.ToFunction (view_types parameters.items)

abbrev pub view_derivations : List Derivation → List derivations.Derivation
view_derivations steps = map view_derivation steps

abbrev pub view_parameter : Parameter → derivations.ParameterValue
view_parameter p = record { name = view_name p.name; ty = view_qtype p.ty }

abbrev pub view_parameters : List Parameter → List derivations.ParameterValue
view_parameters parameters = map view_parameter parameters

abbrev pub view_bindings : Bindings → derivations.Bindings
view_bindings b =
    record {
      parameters = view_parameters b.parameters.items;
      ordinary = found_names b.ordinary.items;
      tags = found_names b.tags.items;
    }

abbrev pub view_bound : Option Bindings → Option derivations.Bindings
view_bound None = None
view_bound (Some b) = Some (view_bindings b)

abbrev pub view_declared : Declared → derivations.Declared
view_declared d =
    record { name = view_name d.name; derivations = view_derivations d.derivations.items; bindings = view_bound d.bindings }
