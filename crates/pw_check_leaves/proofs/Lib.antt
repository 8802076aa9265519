mod PointLaws
mod TextLemmas
mod ParameterLemmas
mod EnumeratorLaws
