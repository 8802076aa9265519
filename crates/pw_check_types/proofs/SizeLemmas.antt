-- A type has a size where it has a layout.
use Rattle.std.specs.Prelude.{◌≡◌, Option, None, Some, is_some, option_map, List, refl}
use Rattle.std.proofs.Common.{ap, sym, ◌∙◌}
use Rattle.pw_types.specs.TypeTrees.{CType, RecordValue}
use Rattle.pw_types.specs.Layouts.{layout_of, told}
use Rattle.pw_check_rules.specs.Kinds.{is_complete}

some_mapped : {A B : Type 0} (f : A → B) (o : Option A) → is_some (option_map f o) ≡ is_some o
some_mapped f None = refl
some_mapped f (Some x) = refl

pub complete_by_layout : (records : List RecordValue) (ty : CType) → is_some (option_map told (layout_of records ty)) ≡ is_complete records ty
complete_by_layout records ty =
    some_mapped told (layout_of records ty) ∙ sym (some_mapped (λ l. l.size) (layout_of records ty))
