-- One line more, as it is read.
use Rattle.std.proofs.Common.{◌≡◌, List, [], ◌∷◌, ◌++◌, ap, refl}
use Rattle.trace_line.specs.declared.Line.{Line}
use Rattle.std.specs.Prelude.{Option, Some, None}
use Rattle.trace_tags.specs.Tags.{AllFree, AllFreeBy, HasFreeTag, HasFreeTagBy, TagsView, after_all, after_line, read_all, read_by, read_line, read_line_by, tags_after, tags_by}

pub read_more : (tags : TagsView) (lines : List Line) (line : Line) → read_all tags (lines ++ line ∷ []) ≡ read_all tags lines ++ read_line (after_all tags lines) line ∷ []
read_more tags [] line = refl
read_more tags (first ∷ lines) line = ap (λ ls. read_line tags first ∷ ls) (read_more (after_line tags first) lines line)

pub after_more : (tags : TagsView) (lines : List Line) (line : Line) → after_all tags (lines ++ line ∷ []) ≡ after_line (after_all tags lines) line
after_more tags [] line = refl
after_more tags (first ∷ lines) line = after_more (after_line tags first) lines line

pub free_more : (tags : TagsView) (lines : List Line) (line : Line) → AllFree tags lines → HasFreeTag (after_all tags lines) line.label → AllFree tags (lines ++ line ∷ [])
free_more tags [] line all free = (free, tt)
free_more tags (first ∷ lines) line all free = (all.0, free_more (after_line tags first) lines line all.1 free)

-- WHERE ANY FREE TAG WILL DO, OR NONE BUT THE LOWEST

pub read_by_more : (tags : Option TagsView) (lines : List Line) (line : Line) → read_by tags (lines ++ line ∷ []) ≡ read_by tags lines ++ read_line_by (tags_by tags lines) line ∷ []
read_by_more None lines line = refl
read_by_more (Some tags) lines line = read_more tags lines line

pub tags_by_more : (tags : Option TagsView) (lines : List Line) (line : Line) → tags_by tags (lines ++ line ∷ []) ≡ tags_after (tags_by tags lines) line
tags_by_more None lines line = refl
tags_by_more (Some tags) lines line = ap (λ (t : TagsView). Some t) (after_more tags lines line)

pub free_by_more : (tags : Option TagsView) (lines : List Line) (line : Line) → AllFreeBy tags lines → HasFreeTagBy (tags_by tags lines) line → AllFreeBy tags (lines ++ line ∷ [])
free_by_more None lines line all free = tt
free_by_more (Some tags) lines line all free = free_more tags lines line all free

pub none_read : (tags : Option TagsView) → read_by tags [] ≡ []
none_read None = refl
none_read (Some tags) = refl

pub first_by : (tags : Option TagsView) → tags_by tags [] ≡ tags
first_by None = refl
first_by (Some tags) = refl

pub none_free : (tags : Option TagsView) → AllFreeBy tags []
none_free None = tt
none_free (Some tags) = tt
