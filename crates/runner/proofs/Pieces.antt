-- What reading a piece adds to what was gathered.
use Rattle.std.proofs.Common.{◌≡◌, List, [], ◌∷◌, ◌++◌, sym, ap, ◌∙◌, append-nil, append_assoc}

-- the file was read to its end, and stands among what is whole
pub read_whole : {A : Type 0} (old new file end items : List A) → new ≡ old ++ (file ++ end) → items ≡ end → new ≡ (old ++ file) ++ items
read_whole old new file end items is last = is ∙ sym (append_assoc old file end) ∙ ap (λ zs. (old ++ file) ++ zs) (sym last)

-- a piece was read
pub read_more : {A : Type 0} (old : List A) (first : A) (content new items : List A) → new ≡ content ++ items →
    old ++ (first ∷ new) ≡ (old ++ (first ∷ content)) ++ items
read_more old first content new items is = ap (λ zs. old ++ (first ∷ zs)) is ∙ sym (append_assoc old (first ∷ content) items)

-- a file within what is whole was read to its end
pub read_inside : {A : Type 0} (old tree new file end items : List A) → new ≡ tree ++ (file ++ end) → items ≡ end →
    old ++ new ≡ (old ++ (tree ++ file)) ++ items
read_inside old tree new file end items is last =
    ap (λ zs. old ++ zs) (is ∙ sym (append_assoc tree file end)) ∙ sym (append_assoc old (tree ++ file) end)
    ∙ ap (λ zs. (old ++ (tree ++ file)) ++ zs) (sym last)

-- one more stands behind
pub one_behind : {A : Type 0} (old tree new items : List A) → new ≡ tree ++ items → old ++ new ≡ (old ++ tree) ++ items
one_behind old tree new items is = ap (λ zs. old ++ zs) is ∙ sym (append_assoc old tree items)

-- a piece of a file within what is whole was read
pub more_inside : {A : Type 0} (old tree : List A) (first : A) (content new items : List A) → new ≡ content ++ items →
    old ++ (tree ++ (first ∷ new)) ≡ (old ++ (tree ++ (first ∷ content))) ++ items
more_inside old tree first content new items is =
    ap (λ zs. old ++ zs) (ap (λ zs. tree ++ (first ∷ zs)) is ∙ sym (append_assoc tree (first ∷ content) items))
    ∙ sym (append_assoc old (tree ++ (first ∷ content)) items)

pub nothing_more : {A : Type 0} (old items : List A) → items ≡ [] → old ≡ old ++ items
nothing_more old items none = sym (append-nil old) ∙ ap (λ zs. old ++ zs) (sym none)

-- a file within what is whole is to be read
pub begun_inside : {A : Type 0} (old tree : List A) (first : A) (rest items : List A) → rest ≡ [] → items ≡ first ∷ [] →
    old ++ (tree ++ (first ∷ rest)) ≡ (old ++ tree) ++ items
begun_inside old tree first rest items none is =
    ap (λ zs. old ++ (tree ++ (first ∷ zs))) none ∙ sym (append_assoc old tree (first ∷ [])) ∙ ap (λ zs. (old ++ tree) ++ zs) (sym is)

-- a file is to be read
pub begun : {A : Type 0} (old : List A) (first : A) (rest items : List A) → rest ≡ [] → items ≡ first ∷ [] →
    old ++ (first ∷ rest) ≡ old ++ items
begun old first rest items none is = ap (λ zs. old ++ (first ∷ zs)) none ∙ ap (λ zs. old ++ zs) (sym is)
