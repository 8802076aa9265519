-- How many functions and globals a program has.
use Rattle.std.proofs.Common.{◌≡◌, ℕ, suc, ◌+◌, ◌≤◌, List, [], ◌∷◌, length, map, refl, ap, arith, length-append}
use Rattle.std.proofs.lemmas.List.{length-map}
use Rattle.std.proofs.lemmas.List.Sums.{sum_by-cons}
use Rattle.pw_link_rules.specs.declared.interface.Interface.{Interface}
use Rattle.std.specs.List.{flat_map}
use Rattle.std.proofs.lemmas.List.Concat.{flat_map-cons}
use Rattle.pw_value.specs.Limits.{function_limit, global_limit}
use Rattle.pw_summary.specs.declared.summary.Summary.{Summary}
use Rattle.pw_summary.specs.declared.summary.Uses.{Uses}
use Rattle.pw_link_rules.specs.Linking.{library_declarations, function_count, global_count, few_functions, few_globals}
use Rattle.pw_graph.specs.Program.{interface_of, AreLinked}
use Rattle.pw_graph.specs.Making.{homes_in, module_homes, all_homes, eligible_one, eligible_in, all_eligible}
use Rattle.pw_graph.proofs.Lists.{length_filtered}

length_homes : (fs : List (List ℕ × List ℕ)) (us : List Uses) → length (homes_in fs us) ≡ length fs
length_homes [] us = refl
length_homes (f ∷ fs) [] = ap suc (length_homes fs [])
length_homes (f ∷ fs) (u ∷ us) = ap suc (length_homes fs us)

module_count : (ss : List Summary) → length (flat_map module_homes ss) ≡ function_count (map interface_of ss)
module_count [] = refl
module_count (s ∷ ss) =
    let split = ap length (flat_map-cons module_homes s ss) in
    let one = length_homes s.functions s.uses in
    let names = length-map s.functions (λ f. f.0) in
    let rest = module_count ss in
    let step : function_count (map interface_of (s ∷ ss)) ≡ length (map (λ f. f.0) s.functions) + function_count (map interface_of ss) = sum_by-cons (λ (i : Interface). length i.functions) (interface_of s) (map interface_of ss) in
    omega (arith, split, length-append (module_homes s) (flat_map module_homes ss), one, names, rest)

pub few_homes : (ss : List Summary) → AreLinked ss → length (all_homes ss) ≤ function_limit + 3
few_homes ss linked =
    let few = linked few_functions in
    let library = length_homes library_declarations [] in
    omega (arith, few, module_count ss, length-append (homes_in library_declarations []) (flat_map module_homes ss), library)

scalar_count : (taken escaped : List (List ℕ)) (ss : List Summary) → length (all_eligible taken escaped ss) ≤ global_count (map interface_of ss)
scalar_count taken escaped [] = omega arith
scalar_count taken escaped (s ∷ ss) =
    let split = ap length (flat_map-cons (λ (t : Summary). eligible_in taken escaped t.globals) s ss) in
    let one = length_filtered (eligible_one taken escaped) s.globals in
    let names = length-map s.globals (λ g. g.0) in
    let rest = scalar_count taken escaped ss in
    let step : global_count (map interface_of (s ∷ ss)) ≡ length (map (λ g. g.0) s.globals) + global_count (map interface_of ss) = sum_by-cons (λ (i : Interface). length i.globals) (interface_of s) (map interface_of ss) in
    omega (arith, split, length-append (eligible_in taken escaped s.globals) (all_eligible taken escaped ss), one, names, rest)

pub few_scalars : (taken escaped : List (List ℕ)) (ss : List Summary) → AreLinked ss → length (all_eligible taken escaped ss) ≤ global_limit
few_scalars taken escaped ss linked =
    let few = linked few_globals in
    omega (arith, few, scalar_count taken escaped ss)
