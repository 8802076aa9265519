-- The names and tags in scope, and how deep the scope is (ISO C90 6.1.2.1).
use Rattle.std.specs.Prelude.{ℕ, ◌+◌, ◌-◌, ◌==◌, nat_lt, filter, map, List, []}
use Rattle.std.specs.Borrow.{Bor}
use Rattle.pw_check_rules.specs.declared.names.Entry.{Entry}
use Rattle.pw_check_rules.specs.declared.names.Tag.{Tag}
use Rattle.pw_check_rules.specs.declared.names.TagEntry.{TagEntry}

pub record NamesInScope : Type 0 where
  pub ordinary : List (List ℕ × Entry)
  pub tags : List (List ℕ × TagEntry)
  pub depth : ℕ

abbrev pub no_names : NamesInScope
no_names = record { ordinary = []; tags = []; depth = 0 }

abbrev pub deeper : NamesInScope → NamesInScope
deeper c = record c { depth = c.depth + 1 }

-- at a scope's end what is as deep as it is gone
abbrev pub left : NamesInScope → NamesInScope
left c =
    record c {
      ordinary = filter (λ e. nat_lt e.1.depth c.depth) c.ordinary;
      tags = filter (λ e. nat_lt e.1.depth c.depth) c.tags;
      depth = c.depth - 1;
    }

-- names of the text with what is said of them
abbrev pub found_names : {T : Type 0} → List (Bor (List ℕ) × T) → List (List ℕ × T)
found_names found = map (λ e. (e.0.now, e.1)) found

abbrev pub places_in : List (List ℕ × Entry) → List (List ℕ × ℕ)
places_in entries = map (λ e. (e.0, e.1.place)) entries

abbrev pub tags_in : List (List ℕ × TagEntry) → List (List ℕ × Tag)
tags_in entries = map (λ e. (e.0, e.1.tag)) entries

-- what the scope that is read has
abbrev pub names_here : NamesInScope → List (List ℕ × ℕ)
names_here c = places_in (filter (λ e. e.1.depth == c.depth) c.ordinary)

abbrev pub tags_here : NamesInScope → List (List ℕ × Tag)
tags_here c = tags_in (filter (λ e. e.1.depth == c.depth) c.tags)
