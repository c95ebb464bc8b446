-- What is seen of the annotations of a tree.

-- an annotation as it is, so that a plain form keeps its annotations
abbrev pub itself : {A : Type 0} → A → A
itself = λ a. a
