-- The plain data that the code's types show.
use Rattle.std.specs.Prelude.{List, [], ◌∷◌, map, Option, Some, None}
use Rattle.pw_types.specs.TypeTrees as tree
use Rattle.pw_types.specs.TypeTrees.{MemberValue, ContentValue, RecordValue}
use Rattle.pw_types.specs.declared.ctype.CType.{CType, Void, Int, Pointer', Array', Function', Record}
use Rattle.pw_types.specs.declared.ctype.QType.{QType}
use Rattle.pw_types.specs.declared.ctype.Signature.{Signature, Signature', Row_of-QType, end_of-QType, more_of-QType}
use Rattle.pw_types.specs.declared.record.Content.{Content}
use Rattle.pw_types.specs.declared.record.Member.{Member}
use Rattle.pw_types.specs.declared.record.RecordType.{RecordType}

unfoldable mutual
  pub view_type : CType → tree.CType
  view_type Void = tree.Void
  view_type (Int kind) = tree.Int kind
  view_type (Pointer' p ty constant volatile) = tree.Pointer (tree.Qualified (view_type ty) constant volatile)
  view_type (Array' p ty constant volatile count) = tree.Array (tree.Qualified (view_type ty) constant volatile) count
  view_type (Function' p signature) = view_signature signature
  view_type (Record number) = tree.Record number

  pub view_signature : Signature → tree.CType
  view_signature (Signature' ty constant volatile shape params) =
      tree.Function (tree.Qualified (view_type ty) constant volatile) (view_type_row params)

  pub view_type_row : {m : _} → Row_of-QType m → tree.QTypes
  view_type_row end_of-QType = tree.NoType
  view_type_row (more_of-QType ty constant volatile rest) =
      tree.OneType (tree.Qualified (view_type ty) constant volatile) (view_type_row rest)

abbrev pub view_qtype : QType → tree.QType
view_qtype q = tree.Qualified (view_type q.ty) q.constant q.volatile

-- a list of types by itself
abbrev pub view_types : List QType → tree.QTypes
view_types [] = tree.NoType
view_types (q ∷ rest) = tree.OneType (view_qtype q) (view_types rest)

abbrev pub view_member : Member → MemberValue
view_member m = record { name = m.name; ty = view_qtype m.ty }

abbrev pub view_members : List Member → List MemberValue
view_members members = map view_member members

abbrev pub view_content : Content → ContentValue
view_content c = record { members = view_members c.members.items; offsets = c.offsets.items; layout = c.layout; shape = c.shape; depth = c.depth }

abbrev pub view_known : Option Content → Option ContentValue
view_known None = None
view_known (Some c) = Some (view_content c)

abbrev pub view_record : RecordType → RecordValue
view_record r = record { kind = r.kind; content = view_known r.content }

abbrev pub view_records : List RecordType → List RecordValue
view_records records = map view_record records
