mod PointLemmas
