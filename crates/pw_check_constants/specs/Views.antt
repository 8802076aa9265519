-- The plain data that constants and places of the code show.
use Rattle.pw_types.specs.TypedTrees as tree
use Rattle.pw_typed.specs.Views.{view_symbol}
use Rattle.pw_check_rules.specs.Constants as rules
use Rattle.pw_check_constants.specs.declared.constancy.Constancy.{Constancy}
use Rattle.pw_check_constants.specs.declared.constancy.Constancy.TheVariants as constancy
use Rattle.pw_check_constants.specs.declared.place.Asked.{Asked}
use Rattle.pw_check_constants.specs.declared.place.Asked.TheVariants as asked
use Rattle.pw_check_constants.specs.declared.place.Base.{Base}
use Rattle.pw_check_constants.specs.declared.place.Base.TheVariants as base
use Rattle.pw_check_constants.specs.declared.place.Place.{Place}

abbrev pub view_constancy : Constancy → rules.Constancy
view_constancy (constancy.Known n) = rules.Known n
view_constancy constancy.NoConstant = rules.NoConstant
view_constancy constancy.NoValue = rules.NoValue

abbrev pub view_asked : Asked → rules.Asked
view_asked asked.Address = rules.AsAddress
view_asked asked.Place = rules.AsPlace

abbrev pub view_base : Base → tree.Symbol
view_base (base.Named symbol) = view_symbol symbol.now
view_base (base.Text number) = tree.Hidden number

abbrev pub view_place : Place → rules.Place
view_place p = record { symbol = view_base p.base; offset = p.offset; size = p.size }
